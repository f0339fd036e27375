-- What one read adds: the lines that have ended are passed on, and the input goes on behind them or has ended.
use Rattle.std.proofs.Common.{◌≡◌, ℕ, Bool, suc, ◌+◌, ◌*◌, ◌-◌, ◌^◌, ◌<◌, ◌≤◌, false, true, List, [], ◌∷◌, ◌++◌, length}
use Rattle.std.proofs.Common.{Option, inl, inr, sym, ap, ◌∙◌, subst, arith, append_assoc, append-nil, length-append}
use Rattle.std.proofs.KnownBytes.{Consumes-trans}
use Rattle.std.proofs.Math.Nat.{mul-le-mul}
use Rattle.std.proofs.lemmas.Bool.{cases_Bool}
use Rattle.std.proofs.lemmas.List.{append_cancel_left}
use Rattle.std.specs.Io.KnownBytes.{Consumes, IsAtEnd}
use Rattle.text_parts.specs.Lines.{is_line_feed, lines_of, with_front, IsWhole}
use Rattle.text_parts.proofs.TextLines.{lines_of_end, lines_of_more, lines_of_nil}
use Rattle.input_blocks.proofs.Holding.{LinesAfterWhole}
use Rattle.input_blocks.proofs.PassedOn.{whole_and_whole, whole_input}
use Rattle.input_blocks.specs.Blocks.{ComesTo, HasReadOn, IsAmid, IsThen, filled, waiting}
use Rattle.input_blocks.specs.Held.{IsHeld, PassesOn}
use Rattle.input_blocks.specs.declared.begun_line.BegunLine.{BegunLine}
use Rattle.input_blocks.specs.declared.line_blocks.LineBlocks.{LineBlocks}
use Rattle.input_blocks.specs.declared.passing.Passing.{Passing}

-- ---- how many lines there are

longer : (byte : ℕ) (lines : List (List ℕ)) → length (with_front byte lines) ≤ suc (length lines)
longer byte [] = omega arith
longer byte (line ∷ lines) = omega arith

-- no more than bytes
lines_few : (text : List ℕ) → length (lines_of text) ≤ length text
lines_few [] = let none = ap length lines_of_nil in omega (arith, none)
lines_few (byte ∷ text) =
    let rest = lines_few text in
    elim (cases_Bool (is_line_feed byte)) [
      | inl ends ↦ let e = ap length (lines_of_end byte text ends) in omega (arith, rest, e)
      | inr more ↦
          let e = ap length (lines_of_more byte text more) in
          let l = longer byte (lines_of text) in
          omega (arith, rest, e, l)
    ]

-- so few that they are numbered
countable : (bytes : List ℕ) (reads size : ℕ) → length bytes ≤ reads * size → reads ≤ 2 ^ 32 → size < 2 ^ 32
    → length (lines_of bytes) + 1 < 2 ^ 64
countable bytes reads size within few small =
    let most : size ≤ 2 ^ 32 - 1 = omega (arith, small) in
    let product : reads * size ≤ 2 ^ 32 * (2 ^ 32 - 1) = mul-le-mul few most in
    let lines = lines_few bytes in
    omega (arith, within, product, lines)

-- ---- what is amid an input

module _ {R : Type 0} (reads : R → R → List (List ℕ) → Type 0) where
  -- more was read
  pub amid_read : (gave before after : Option (List ℕ)) (blocks next : LineBlocks) (done : List ℕ)
      → next.passing ≡ blocks.passing → HasReadOn before after blocks.source next.source
      → IsAmid reads gave before blocks done → IsAmid reads gave after next done
  amid_read gave before after blocks next done same read amid =
      let ahead : List ℕ = filled blocks.passing.ahead in
      let block : List ℕ = filled blocks.source.block in
      let so_far : List ℕ = done ++ amid.line in
      let parts : (so_far ++ (ahead ++ block)) ++ read.bytes ≡ so_far ++ waiting next =
      append_assoc so_far (ahead ++ block) read.bytes
      ∙ ap (λ (t : List ℕ). so_far ++ t)
      (append_assoc ahead block read.bytes
      ∙ ap (λ (t : List ℕ). ahead ++ t) (sym read.behind)
      ∙ ap (λ (p : Passing). filled p.ahead ++ filled next.source.block) (sym same)) in
      let fits : length (so_far ++ waiting next) ≤ next.source.reads * next.source.size =
      let few = amid.few in
      let more = read.few in
      let both = length-append (so_far ++ (ahead ++ block)) read.bytes in
      let all = ap length parts in
      let size : next.source.reads * next.source.size ≡ next.source.reads * blocks.source.size =
      ap (λ n. next.source.reads * n) read.same_size in
      omega (arith, few, more, both, all, size) in
      record {
        whole = amid.whole;
        line = amid.line;
        is_held = subst (λ (p : Passing). IsHeld reads p.begun amid.line) (sym same) amid.is_held;
        consumed = subst (Consumes gave after) parts
            (Consumes-trans gave before after (so_far ++ (ahead ++ block)) read.bytes amid.consumed read.consumed);
        few = fits;
      }

  -- the same was read and passed on
  pub amid_same : (gave left : Option (List ℕ)) (blocks next : LineBlocks) (done : List ℕ)
      → next.passing.begun ≡ blocks.passing.begun → waiting next ≡ waiting blocks
      → next.source.reads ≡ blocks.source.reads → next.source.size ≡ blocks.source.size
      → IsAmid reads gave left blocks done → IsAmid reads gave left next done
  amid_same gave left blocks next done begun same calls size amid =
      let so_far : List ℕ = done ++ amid.line in
      let text : so_far ++ waiting blocks ≡ so_far ++ waiting next = ap (λ (t : List ℕ). so_far ++ t) (sym same) in
      let fits : length (so_far ++ waiting next) ≤ next.source.reads * next.source.size =
      let few = amid.few in
      let all = ap length text in
      let product : next.source.reads * next.source.size ≡ blocks.source.reads * blocks.source.size =
      ap (λ n. n * next.source.size) calls ∙ ap (λ n. blocks.source.reads * n) size in
      omega (arith, few, all, product) in
      record {
        whole = amid.whole;
        line = amid.line;
        is_held = subst (λ (b : BegunLine). IsHeld reads b amid.line) (sym begun) amid.is_held;
        consumed = subst (Consumes gave left) text amid.consumed;
        few = fits;
      }

  module _ (law : LinesAfterWhole) (old new : R) (gave left : Option (List ℕ)) (blocks next : LineBlocks)
      (done : List ℕ) (amid : IsAmid reads gave left blocks done) (few : blocks.source.reads ≤ 2 ^ 32)
      (small : blocks.source.size < 2 ^ 32) where
    -- the first of what waits was passed on
    pub amid_passed : (front rest : List ℕ) → waiting blocks ≡ front ++ rest → waiting next ≡ rest
        → next.source.reads ≡ blocks.source.reads → next.source.size ≡ blocks.source.size
        → PassesOn reads old new (amid.line ++ front) next.passing.begun
        → ComesTo reads old new gave left next done true
    amid_passed front rest waits waits_now calls size on =
        let whole : List ℕ = on.passes.whole in
        let parts : (done ++ amid.line) ++ waiting blocks ≡ ((done ++ whole) ++ on.line) ++ waiting next =
        ap (λ (t : List ℕ). (done ++ amid.line) ++ t) waits ∙ sym (append_assoc (done ++ amid.line) front rest)
        ∙ ap (λ (t : List ℕ). t ++ rest) (append_assoc done amid.line front
        ∙ ap (λ (t : List ℕ). done ++ t) on.passes.parts ∙ sym (append_assoc done whole on.line))
        ∙ ap (λ (t : List ℕ). ((done ++ whole) ++ on.line) ++ t) (sym waits_now) in
        let fits : length (((done ++ whole) ++ on.line) ++ waiting next) ≤ next.source.reads * next.source.size =
        let before = amid.few in
        let all = ap length parts in
        let product : next.source.reads * next.source.size ≡ blocks.source.reads * blocks.source.size =
        ap (λ n. n * next.source.size) calls ∙ ap (λ n. blocks.source.reads * n) size in
        omega (arith, before, all, product) in
        record {
          more = whole;
          lines = law done whole amid.whole;
          read = on.passes.read;
          few = countable (done ++ whole) blocks.source.reads blocks.source.size
              (let before = amid.few in let all = ap length parts in
              let n = length-append ((done ++ whole) ++ on.line) (waiting next) in
              let m = length-append (done ++ whole) on.line in
              omega (arith, before, all, n, m)) few small;
          next = record {
            whole = whole_and_whole done whole amid.whole on.passes.ends;
            line = on.line;
            is_held = on.is_held;
            consumed = subst (Consumes gave left) parts amid.consumed;
            few = fits;
          };
        }

    -- nothing waits and nothing comes: the line that is held is the last
    pub amid_end : waiting blocks ≡ [] → IsAtEnd left → reads old new (lines_of amid.line)
        → ComesTo reads old new gave left next done false
    amid_end none end read = record {
      more = amid.line;
      lines = law done amid.line amid.whole;
      read = read;
      few = countable (done ++ amid.line) blocks.source.reads blocks.source.size
          (let before = amid.few in let n = length-append (done ++ amid.line) (waiting blocks) in
          omega (arith, before, n)) few small;
      next = whole_input gave left (done ++ amid.line)
          (subst (Consumes gave left) (ap (λ (t : List ℕ). (done ++ amid.line) ++ t) none
          ∙ append-nil (done ++ amid.line)) amid.consumed) end;
    }

-- ---- several reads, one behind the other

-- lines behind lines that are whole
lines_behind : LinesAfterWhole → (done one more : List ℕ) → IsWhole done → IsWhole (done ++ one)
    → lines_of (one ++ more) ≡ lines_of one ++ lines_of more
lines_behind law done one more whole both =
    append_cancel_left (lines_of done) (lines_of (one ++ more)) (lines_of one ++ lines_of more)
    (sym (law done (one ++ more) whole) ∙ ap lines_of (sym (append_assoc done one more)) ∙ law (done ++ one) more both
    ∙ ap (λ (lines : List (List ℕ)). lines ++ lines_of more) (law done one whole)
    ∙ append_assoc (lines_of done) (lines_of one) (lines_of more))

-- what two reads come to, where the input goes on behind the first
pub comes_further : {R : Type 0} (reads : R → R → List (List ℕ) → Type 0) → LinesAfterWhole
    → ((old mid new : R) (lines more : List (List ℕ)) → reads old mid lines → reads mid new more
    → reads old new (lines ++ more)) → (old mid new : R) (gave left after : Option (List ℕ)) (blocks next : LineBlocks)
    (done : List ℕ) (goes_on : Bool) → IsWhole done → (one : ComesTo reads old mid gave left blocks done true)
    → ComesTo reads mid new gave after next (done ++ one.more) goes_on
    → ComesTo reads old new gave after next done goes_on
comes_further reads law reads_on old mid new gave left after blocks next done goes_on whole one two =
    let same : done ++ (one.more ++ two.more) ≡ (done ++ one.more) ++ two.more
    = sym (append_assoc done one.more two.more) in
    record {
      more = one.more ++ two.more;
      lines = law done (one.more ++ two.more) whole;
      read = subst (reads old new) (sym (lines_behind law done one.more two.more whole one.next.whole))
          (reads_on old mid new (lines_of one.more) (lines_of two.more) one.read two.read);
      few = subst (λ (bytes : List ℕ). length (lines_of bytes) + 1 < 2 ^ 64) (sym same) two.few;
      next = subst (λ (bytes : List ℕ). IsThen reads gave after next bytes goes_on) (sym same) two.next;
    }

-- where the input goes on
pub comes_amid : {R : Type 0} (reads : R → R → List (List ℕ) → Type 0) (old new : R) (gave left : Option (List ℕ))
    (blocks : LineBlocks) (done : List ℕ) (goes_on : Bool) → goes_on ≡ true
    → ComesTo reads old new gave left blocks done goes_on → ComesTo reads old new gave left blocks done true
comes_amid reads old new gave left blocks done goes_on is comes =
    subst (λ (on : Bool). ComesTo reads old new gave left blocks done on) is comes
