use Rattle.vmx_pcap.specs.Unique.{capture_answers}
use Rattle.vmx_pcap.proofs.reader.read.Goals as goal

pub returns-clause-capture : goal.returns-clause-capture
returns-clause-capture c = λ capture is fit. capture_answers c.args.bytes.now c.args.most c.read_file.result capture c.read_file.ensures.reads is fit
