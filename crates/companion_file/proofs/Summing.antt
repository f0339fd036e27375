-- What lines say, taken together, with one more line.
use Rattle.std.proofs.Common.{◌≡◌, List, [], ◌∷◌, ◌++◌}
use Rattle.std.proofs.lemmas.List.{append-nil, map-append}
use Rattle.std.proofs.lemmas.List.Elements.{filter_map-append}
use Rattle.companion_file.specs.Shape.{Shape, version_line, cpus_line, start_line, floor_line, task_line, claim_line}
use Rattle.companion_file.specs.Shape.{nice_line, idle_line, charge_line}
use Rattle.companion_file.specs.Earlier.{summed}
use Rattle.companion_file.specs.Draft.{with_line}
use Rattle.companion_file.proofs.Lasts.{last_or-push}
use Rattle.companion_file.proofs.Policies.{policies_again}

pub summed-push : (said : List Shape) (x : Shape) → summed (said ++ x ∷ []) ≡ with_line (summed said) x
summed-push said (version_line n) = simp (filter_map-append, append-nil, last_or-push)
summed-push said (cpus_line n) = simp (filter_map-append, append-nil, last_or-push)
summed-push said (start_line seconds nanoseconds) = simp (filter_map-append, append-nil, last_or-push)
summed-push said (floor_line cpu floor) = simp (filter_map-append, append-nil)
summed-push said (task_line t) = simp (filter_map-append, append-nil, map-append)
summed-push said (claim_line k) = simp (filter_map-append, append-nil)
summed-push said (nice_line k) = simp (filter_map-append, append-nil)
summed-push said (idle_line k) = simp (filter_map-append, append-nil, policies_again)
summed-push said (charge_line k) = simp (filter_map-append, append-nil)
