-- Of an input of which no read was made nothing was passed on.
use Rattle.std.proofs.Common.{◌≡◌, ◌++◌, ℕ, List, [], Option, length, inl, refl, sym, ap, ◌∙◌, subst, arith}
use Rattle.std.specs.Io.KnownBytes.{Consumes}
use Rattle.input_blocks.proofs.Holding.{held_none}
use Rattle.input_blocks.proofs.PassedOn.{consumes_none}
use Rattle.input_blocks.specs.Blocks.{IsAmid, IsFresh, filled, waiting}
use Rattle.input_blocks.specs.declared.line_blocks.LineBlocks.{LineBlocks}

pub fresh : {R : Type 0} (reads : R → R → List (List ℕ) → Type 0) (gave : Option (List ℕ)) (blocks : LineBlocks)
    → IsFresh blocks → IsAmid reads gave gave blocks []
fresh reads gave blocks none =
    let nothing : waiting blocks ≡ [] =
    ap (λ (t : List ℕ). t ++ filled blocks.source.block) none.ahead ∙ none.unread in
    record {
      whole = inl refl;
      line = [];
      is_held = held_none reads blocks.passing.begun none.none none.unsettled;
      consumed = subst (Consumes gave gave) (sym nothing) (consumes_none gave);
      few = (let n = ap length nothing in omega (arith, n));
    }
