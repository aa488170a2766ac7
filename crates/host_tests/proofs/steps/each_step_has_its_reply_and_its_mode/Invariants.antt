use Rattle.line_device.specs.Plain.{device_of}
use Rattle.machine_host.specs.Settling.{GoesOn}
use Rattle.host_tests.proofs.steps.each_step_has_its_reply_and_its_mode.Given as goal

abbrev pub invariant-loop-act : goal.invariant-loop-act
invariant-loop-act g l = GoesOn l.host (device_of l.device)
