use Rattle.std.proofs.Common.{◌≡◌, ◌++◌, take}
use Rattle.std.specs.List.{flat_map}
use Rattle.kt_scene.specs.Report.{service_line}
use Rattle.kt_scene.proofs.report.push_services.Given as goal

abbrev pub invariant-loop-service : goal.invariant-loop-service
invariant-loop-service l = l.out.items ≡ l.initial.out.items ++ flat_map service_line (take l.service-index l.services)
