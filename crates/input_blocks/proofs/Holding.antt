-- Of a line whose end hasn't come yet enough is held, and at its end the reader has read the whole line.
use Rattle.std.proofs.Common.{◌≡◌, ℕ, ◌<◌, Bool, true, false, List, [], ◌∷◌, ◌++◌, length}
use Rattle.std.proofs.Common.{inl, inr, refl, sym, ap, ◌∙◌, subst, arith, append_assoc, append-nil, length-append}
use Rattle.std.proofs.Common.{Result, Ok, Err}
use Rattle.std.specs.Prelude.{OnOk}
use Rattle.std.specs.List.{list_any}
use Rattle.std.proofs.lemmas.Bool.{cases_Bool}
use Rattle.text_parts.specs.Lines.{is_line_feed, lines_of, IsWhole}
use Rattle.input_blocks.proofs.Feeds.{line_fed, line_unfed, none_in_both, none_in_front}
use Rattle.input_blocks.proofs.PassedOn.{passes_none, whole_and_whole}
use Rattle.input_blocks.specs.Held.{AreEnough, IsHeld, PassesOn, Settles}
use Rattle.input_blocks.specs.declared.begun_line.BegunLine.{BegunLine}

-- a law that the lines of whole lines and of what follows them are those of both
abbrev pub LinesAfterWhole : Type 0
LinesAfterWhole = (text more : List ℕ) → IsWhole text → lines_of (text ++ more) ≡ lines_of text ++ lines_of more

pub on_ok : {A E : Type 0} (P Q : Type 0) (r : Result A E) → (P → Q) → OnOk r P → OnOk r Q
on_ok P Q (Ok x) follows holds = follows holds
on_ok P Q (Err e) follows holds = tt

module _ {R : Type 0} (reads : R → R → List (List ℕ) → Type 0) where
  all_held : (settled : Bool) (front more : List ℕ) → settled ≡ false → AreEnough reads settled front more → more ≡ []
  all_held true front more e enough = absurd cc
  all_held false front more e enough = enough

  settled_held : (settled : Bool) (front more : List ℕ) → settled ≡ true → AreEnough reads settled front more
      → Settles reads front
  settled_held true front more e enough = enough
  settled_held false front more e enough = absurd cc

  -- no line has begun
  pub held_none : (begun : BegunLine) → begun.bytes.items ≡ [] → begun.settled ≡ false → IsHeld reads begun []
  held_none begun none unsettled = record {
    more = [];
    parts = rw none refl;
    one = refl;
    enough = subst (λ b. AreEnough reads b begun.bytes.items []) (sym unsettled) refl;
  }

  -- of a line that isn't settled all is held
  pub open_line : (begun : BegunLine) (line : List ℕ) → IsHeld reads begun line → begun.settled ≡ false
      → line ≡ begun.bytes.items
  open_line begun line h e =
      h.parts ∙ ap (λ (more : List ℕ). begun.bytes.items ++ more)
      (all_held begun.settled begun.bytes.items h.more e h.enough)
      ∙ append-nil begun.bytes.items

  -- of a settled line enough is held, whatever comes of it
  pub held_settled : (begun : BegunLine) (line more : List ℕ) → begun.settled ≡ true
      → list_any is_line_feed more ≡ false → IsHeld reads begun line → IsHeld reads begun (line ++ more)
  held_settled begun line more e none h = record {
    more = h.more ++ more;
    parts = ap (λ (l : List ℕ). l ++ more) h.parts ∙ append_assoc begun.bytes.items h.more more;
    one = none_in_both line more h.one none;
    enough = again begun.settled e h.enough;
  }
    where
      again : (settled : Bool) → settled ≡ true → AreEnough reads settled begun.bytes.items h.more
          → AreEnough reads settled begun.bytes.items (h.more ++ more)
      again true e enough = enough
      again false e enough = absurd cc

  -- a line of which enough was held, at the end of the text
  pub held_read : (old new : R) (begun : BegunLine) (line : List ℕ) → IsHeld reads begun line
      → reads old new (lines_of begun.bytes.items) → reads old new (lines_of line)
  held_read old new begun line h read =
      elim (cases_Bool begun.settled) [
        | inl holds ↦
            let front : List ℕ = begun.bytes.items in
            let is = settled_held begun.settled front h.more holds h.enough in
            let one = none_in_front front h.more (subst (λ l. list_any is_line_feed l ≡ false) h.parts h.one) in
            let whole : List ℕ = front ++ h.more in
            let some : 0 < length whole = omega (arith, is.some, length-append front h.more) in
            let long = is.same old new h.more (subst (reads old new) (line_unfed front is.some one) read) in
            subst (λ l. reads old new (lines_of l)) (sym h.parts)
            (subst (reads old new)
            (sym (line_unfed whole some (subst (λ l. list_any is_line_feed l ≡ false) h.parts h.one))) long)
        | inr open_yet ↦ subst (λ l. reads old new (lines_of l)) (sym (open_line begun line h open_yet)) read
      ]

  -- a line that isn't settled, with its end
  pub open_read : (old new : R) (begun : BegunLine) (line piece : List ℕ) (all : List ℕ) → begun.settled ≡ false
      → all ≡ begun.bytes.items ++ piece → IsHeld reads begun line → reads old new (lines_of all)
      → reads old new (lines_of (line ++ piece))
  open_read old new begun line piece all e is h read =
      subst (λ (l : List ℕ). reads old new (lines_of l))
      (is ∙ ap (λ (l : List ℕ). l ++ piece) (sym (open_line begun line h e))) read

  -- a settled line, with its end
  pub settled_read : (old new : R) (begun : BegunLine) (line piece end : List ℕ) → begun.settled ≡ true
      → list_any is_line_feed piece ≡ false → end ≡ piece ++ 10 ∷ [] → IsHeld reads begun line
      → reads old new (lines_of begun.bytes.items) → reads old new (lines_of (line ++ end))
  settled_read old new begun line piece end holds none is h read =
      let longer = held_settled begun line piece holds none h in
      let front : List ℕ = begun.bytes.items in
      let settles = settled_held begun.settled front h.more holds h.enough in
      let one = none_in_front front h.more (subst (λ l. list_any is_line_feed l ≡ false) h.parts h.one) in
      let long = settles.same old new longer.more (subst (reads old new) (line_unfed front settles.some one) read) in
      let fed : (line ++ piece) ++ 10 ∷ [] ≡ line ++ end =
      append_assoc line piece (10 ∷ []) ∙ ap (λ (l : List ℕ). line ++ l) (sym is) in
      subst (λ (l : List ℕ). reads old new (lines_of l)) fed
      (subst (reads old new) (sym (line_fed (line ++ piece) longer.one))
      (subst (λ l. reads old new (l ∷ [])) (sym longer.parts) long))

  abbrev pub ReadsOn : Type 0
  ReadsOn = (old mid new : R) (lines more : List (List ℕ)) → reads old mid lines → reads mid new more
      → reads old new (lines ++ more)

  -- a line and the whole lines behind it are read, and the beginning of one behind those is held
  pub passes_lines : LinesAfterWhole → ReadsOn → (old mid new : R) (line piece end whole begun text : List ℕ)
      (next : BegunLine) → end ≡ piece ++ 10 ∷ [] → text ≡ end ++ (whole ++ begun) → IsWhole whole
      → reads old mid (lines_of (line ++ end)) → reads mid new (lines_of whole) → IsHeld reads next ([] ++ begun)
      → PassesOn reads old new (line ++ text) next
  passes_lines law reads_on old mid new line piece end whole begun text next is parts ends first rest held =
      let one : List ℕ = line ++ end in
      let one_ends : IsWhole one =
      inr (line ++ piece, ap (λ (l : List ℕ). line ++ l) is ∙ sym (append_assoc line piece (10 ∷ []))) in
      record {
        line = begun;
        is_held = held;
        passes = record {
          whole = one ++ whole;
          parts = ap (λ (l : List ℕ). line ++ l) parts ∙ sym (append_assoc line end (whole ++ begun))
              ∙ sym (append_assoc one whole begun);
          ends = whole_and_whole one whole one_ends ends;
          read = subst (reads old new) (sym (law one whole one_ends))
              (reads_on old mid new (lines_of one) (lines_of whole) first rest);
        };
      }

  -- no line has ended
  pub passes_longer : ((reader : R) → reads reader reader []) → (reader : R) (next : BegunLine) (line text : List ℕ)
      → IsHeld reads next (line ++ text) → PassesOn reads reader reader (line ++ text) next
  passes_longer reads_none reader next line text held =
      record {
        line = line ++ text;
        is_held = held;
        passes = passes_none reads reads_none reader (line ++ text);
      }
