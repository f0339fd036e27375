-- The first fault of some events is that of more, too.
use Rattle.std.proofs.Common.{◌∷◌, ◌++◌, append_assoc, ap, ◌∙◌}
use Rattle.window_laws.specs.Windows.{FaultStays}

pub fault_stays : FaultStays
fault_stays knobs start first events more line cause f = record {
  before = f.before;
  event = f.event;
  rest = f.rest ++ more;
  whole = ap (λ xs. xs ++ more) f.whole ∙ append_assoc f.before (f.event ∷ f.rest) more;
  line_is = f.line_is;
  why = f.why;
  ends = f.ends;
}
