use Rattle.vmx_replay_steps.proofs.Passed.{told_sent, was_sent, was_posted, was_delivered, tx_driver, rx_driver, tx_device, rx_device}
use Rattle.vmx_replay_steps.proofs.laws.notes_pass_all_queues.Goals as goal

pub returns : goal.returns
returns c = record { told = told_sent; sent = was_sent; posted = was_posted; delivered = was_delivered; tx_driver = tx_driver; rx_driver = rx_driver; tx_device = tx_device; rx_device = rx_device }
