use Rattle.line_device.specs.Plain.{device_of}
use Rattle.file_pages.specs.Object.{PagesServe}
use Rattle.file_tests.proofs.maps.follow.Given as goal

abbrev pub invariant-loop-act : goal.invariant-loop-act
invariant-loop-act g l = PagesServe l.files (device_of l.device).medium
