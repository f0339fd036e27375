-- The text has the signs that were gone over.
use Rattle.std.proofs.Common.{◌≡◌, ◌++◌, flat_map, string_bytes}
use Rattle.report_json.specs.Json.{sign_of}
use Rattle.report_json.proofs.name.push_signs.Given as goal

abbrev pub invariant-loop-sign : goal.invariant-loop-sign
invariant-loop-sign l = string_bytes l.text ≡ string_bytes l.fn.text ++ flat_map sign_of l.yielded
