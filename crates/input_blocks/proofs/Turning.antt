-- What was read ahead is passed on beside the next reads, and these come behind it.
use Rattle.std.proofs.Common.{◌≡◌, ℕ, ◌^◌, ◌<◌, ◌≤◌, true, false, List, [], ◌++◌, Option, refl, sym, ap, subst, ◌∙◌}
use Rattle.std.proofs.Common.{Bool, append-nil}
use Rattle.std.specs.Io.KnownBytes.{IsAtEnd}
use Rattle.text_parts.specs.Lines.{lines_of, IsWhole}
use Rattle.input_blocks.proofs.Coming.{amid_end, amid_passed, amid_read, comes_further}
use Rattle.input_blocks.proofs.Holding.{LinesAfterWhole, ReadsOn, passes_longer}
use Rattle.input_blocks.specs.Blocks.{ComesTo, HasReadOn, IsAmid, IsPassed, filled, waiting}
use Rattle.input_blocks.specs.Held.{IsHeld, PassesOn}
use Rattle.input_blocks.specs.declared.block.Block.{Block}
use Rattle.input_blocks.specs.declared.line_blocks.LineBlocks.{LineBlocks}
use Rattle.input_blocks.specs.declared.passing.Passing.{Passing}

-- ---- all that waits is passed on

module _ {R : Type 0} (reads : R → R → List (List ℕ) → Type 0) (law : LinesAfterWhole) (reads_on : ReadsOn reads)
    (gave left : Option (List ℕ)) (blocks : LineBlocks) (done : List ℕ) (few : blocks.source.reads ≤ 2 ^ 32)
    (small : blocks.source.size < 2 ^ 32) where
  -- what was read ahead, and then what was read behind it
  pub both_passed : (old mid new : R) (next : LineBlocks) (one : Passing) (text : List ℕ)
      → IsAmid reads gave left blocks done → IsPassed reads old mid blocks.passing one → filled one.ahead ≡ []
      → ((line : List ℕ) → IsHeld reads one.begun line → PassesOn reads mid new (line ++ text) next.passing.begun)
      → text ≡ filled blocks.source.block → next.passing.ahead ≡ one.ahead → filled next.source.block ≡ []
      → next.source.reads ≡ blocks.source.reads → next.source.size ≡ blocks.source.size
      → (goes_on : Bool) → goes_on ≡ true → ComesTo reads old new gave left next done goes_on
  both_passed old mid new next one text amid passed none behind is same emptied calls size goes_on more_comes =
      let block : List ℕ = filled blocks.source.block in
      let halfway : LineBlocks = record { passing = one; source = blocks.source } in
      let first = amid_passed reads law old mid gave left blocks halfway done amid few small
      (filled blocks.passing.ahead) block refl (ap (λ (t : List ℕ). t ++ block) none) refl refl
      (passed amid.line amid.is_held) in
      let held = first.next in
      let waits : waiting halfway ≡ block ++ [] = ap (λ (t : List ℕ). t ++ block) none ∙ sym (append-nil block) in
      let waits_now : waiting next ≡ [] =
      ap (λ (b : Block). filled b ++ filled next.source.block) same
      ∙ ap (λ (t : List ℕ). t ++ filled next.source.block) none ∙ emptied in
      let on = subst (λ (t : List ℕ). PassesOn reads mid new (held.line ++ t) next.passing.begun) is
      (behind held.line held.is_held) in
      subst (λ (b : Bool). ComesTo reads old new gave left next done b) (sym more_comes)
      (comes_further reads law reads_on old mid new gave left left halfway next done true amid.whole first
      (amid_passed reads law mid new gave left halfway next (done ++ first.more) held few small block [] waits waits_now
      calls size on))

  -- and the last line, where the input has ended
  pub last_passed : (old mid new : R) → IsWhole done → ComesTo reads old mid gave left blocks done true
      → waiting blocks ≡ [] → IsAtEnd left
      → ((line : List ℕ) → IsHeld reads blocks.passing.begun line → reads mid new (lines_of line))
      → (goes_on : Bool) → goes_on ≡ false → ComesTo reads old new gave left blocks done goes_on
  last_passed old mid new whole one none end last goes_on ended =
      let held = one.next in
      subst (λ (b : Bool). ComesTo reads old new gave left blocks done b) (sym ended)
      (comes_further reads law reads_on old mid new gave left left blocks blocks done false whole one
      (amid_end reads law mid new gave left blocks blocks (done ++ one.more) held few small none end
      (last held.line held.is_held)))

  -- nothing of it is passed on
  pub none_passed : (reader : R) → ((r : R) → reads r r []) → IsAmid reads gave left blocks done
      → (goes_on : Bool) → goes_on ≡ true → ComesTo reads reader reader gave left blocks done goes_on
  none_passed reader reads_none amid goes_on more_comes =
      subst (λ (b : Bool). ComesTo reads reader reader gave left blocks done b) (sym more_comes)
      (amid_passed reads law reader reader gave left blocks blocks done amid few small [] (waiting blocks) refl refl
      refl refl
      (passes_longer reads reads_none reader blocks.passing.begun amid.line []
      (subst (λ (t : List ℕ). IsHeld reads blocks.passing.begun t) (sym (append-nil amid.line)) amid.is_held)))

-- what was read comes to be ahead, where nothing was
pub swapped : (ahead block one other : Block) → one ≡ block → other ≡ ahead → filled ahead ≡ []
    → filled one ++ filled other ≡ filled ahead ++ filled block
swapped ahead block one other is was none =
    ap (λ (b : Block). filled b ++ filled other) is ∙ ap (λ (b : Block). filled block ++ filled b) was
    ∙ ap (λ (t : List ℕ). filled block ++ t) none ∙ append-nil (filled block)
    ∙ sym (ap (λ (t : List ℕ). t ++ filled block) none)

-- ---- beside reads

module _ {R : Type 0} (reads : R → R → List (List ℕ) → Type 0) (law : LinesAfterWhole) (reads_on : ReadsOn reads)
    (old mid : R) (gave before after : Option (List ℕ)) (blocks now : LineBlocks) (done : List ℕ)
    (amid : IsAmid reads gave before blocks done) (read : HasReadOn before after blocks.source now.source)
    (passed : IsPassed reads old mid blocks.passing now.passing) (none : filled now.passing.ahead ≡ [])
    (few : now.source.reads ≤ 2 ^ 32) (small : now.source.size < 2 ^ 32) where
  abbrev unpassed : LineBlocks
  unpassed = record { passing = blocks.passing; source = now.source }

  -- behind both the lines that ended have been read
  pub beside : ComesTo reads old mid gave after now done true
  beside =
      let so_far = amid_read reads gave before after blocks unpassed done refl read amid in
      amid_passed reads law old mid gave after unpassed now done so_far few small (filled blocks.passing.ahead)
      (filled now.source.block) refl (ap (λ (t : List ℕ). t ++ filled now.source.block) none) refl refl
      (passed so_far.line so_far.is_held)

  -- and so they have behind what follows
  pub turned : (new : R) (next : LineBlocks) (goes_on : Bool)
      → ComesTo reads mid new gave after next (done ++ beside.more) goes_on
      → ComesTo reads old new gave after next done goes_on
  turned new next goes_on comes =
      comes_further reads law reads_on old mid new gave after after now next done goes_on amid.whole beside comes
