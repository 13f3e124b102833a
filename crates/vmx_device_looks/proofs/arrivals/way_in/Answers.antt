use Rattle.vmx_device_state.specs.SetupView.{setup_view}
use Rattle.vmx_device_looks.proofs.Forms.{way_stopped, way_to}
use Rattle.vmx_device_looks.proofs.arrivals.way_in.Goals as goal

pub returns-in-Some-stopped : goal.returns-in-Some-stopped
returns-in-Some-stopped g c = record { way = way_stopped c.args.machine.now (setup_view c.in-Some.setup.now) c.in-Some.ensures.setup c.mac.result c.mac.ensures.mac c.args.frame.now c.in-Yes.ensures.verdict c.terms_of-terms.result _ c.terms_of-terms.ensures.terms c.in-Some-stopped.ensures.stopped }

pub returns-in-None-stopped : goal.returns-in-None-stopped
returns-in-None-stopped g c = record { way = way_to c.args.machine.now (setup_view c.in-Some.setup.now) c.in-Some.ensures.setup c.mac.result c.mac.ensures.mac c.args.frame.now c.in-Yes.ensures.verdict c.terms_of-terms.result c.terms_of-terms.ensures.terms c.in-None-stopped.ensures.stopped }
