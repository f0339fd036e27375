-- What was read ahead is passed on while the trace's next reads are made: what both come to.
use Rattle.std.proofs.Common.{◌≡◌, ◌⊎◌, ℕ, Bool, false, List, Option, Result, Ok, Err, inl, inr, refl, sym, subst, ◌∙◌}
use Rattle.std.specs.Prelude.{IfErr, IfOk, OnOk}
use Rattle.audit_input.specs.declared.fault.Fault.{Fault}
use Rattle.audit_input.specs.declared.fault.Fault.TheVariants.{Memory, ReadTrace}
use Rattle.audit_input.specs.Known.{IsCutShort}
use Rattle.input_blocks.specs.declared.block_source.BlockSource.{BlockSource}
use Rattle.input_blocks.specs.declared.line_blocks.LineBlocks.{LineBlocks}
use Rattle.stream_audit.proofs.UnderWay.{of_ok, on_ok_of}
use Rattle.stream_audit.specs.Listening.{HasReadMore, IsLeft, IsLeftBy, IsReadBy}

pub on_ok : {T E : Type 0} (A B : Type 0) (r : Result T E) → (A → B) → OnOk r A → OnOk r B
on_ok A B (Ok x) follows holds = follows holds
on_ok A B (Err e) follows holds = tt

-- an answer that is good only where both others are
abbrev pub IsOfBoth : {E : Type 0} → Result Bool Fault → Result Unit E → Result Bool Fault → Type 0
IsOfBoth read passed result = IfOk result (λ goes_on. (read ≡ Ok goes_on) × (passed ≡ Ok tt))

pub of_both : {E : Type 0} (A B C : Type 0) (P : Bool → Type 0) (read : Result Bool Fault) (passed : Result Unit E)
    (result : Result Bool Fault) → IsOfBoth read passed result → OnOk read A → OnOk passed B → OnOk passed C
    → (A → B → C → IfOk result P) → IfOk result P
of_both A B C P read passed (Ok goes_on) both first second third follows =
    follows (on_ok_of A read goes_on both.0 first) (on_ok_of B passed tt both.1 second)
    (on_ok_of C passed tt both.1 third)
of_both A B C P read passed (Err fault) both first second third follows = tt

-- what reads say that were good
pub further_by_both : {E : Type 0} (A : Type 0) (read : Result Bool Fault) (passed : Result Unit E)
    (result : Result Bool Fault) → IsOfBoth read passed result → OnOk read A → OnOk result A
further_by_both A read passed (Ok goes_on) both holds = on_ok_of A read goes_on both.0 holds
further_by_both A read passed (Err fault) both holds = tt

module _ {E : Type 0} (left later : Option (List ℕ)) (calls : ℕ) (has_failed has_ended : Bool) (old : BlockSource)
    (now next : BlockSource) (read : Result Bool Fault) (passed : Result Unit E)
    (more : HasReadMore left later calls has_failed has_ended old now read) (reads : next.reads ≡ now.reads)
    (ended : next.ended ≡ now.ended) where
  -- the reads of a source that came to be this one
  counted_now : calls ≡ now.reads → calls ≡ next.reads
  counted_now e = e ∙ sym reads

  ended_now : has_ended ≡ now.ended → has_ended ≡ next.ended
  ended_now e = e ∙ sym ended

  left_now : (goes_on : Bool) → read ≡ Ok goes_on → IsLeft calls has_failed has_ended next
  left_now goes_on is = record {
    counted = counted_now (on_ok_of _ read goes_on is more.counted);
    heard = on_ok_of _ read goes_on is more.heard;
    ended = ended_now (on_ok_of _ read goes_on is more.told);
  }

  pub read_by_both : (blocks : LineBlocks) → blocks.source ≡ next → (result : Result Bool Fault)
      → IsOfBoth read passed result → IfOk result (IsReadBy later calls has_failed has_ended blocks)
  read_by_both blocks same (Ok goes_on) both =
      let is = both.0 in
      let heard = on_ok_of _ read goes_on is more.heard in
      record {
        counted = subst (λ (s : BlockSource). calls ≡ s.reads) (sym same)
            (counted_now (on_ok_of _ read goes_on is more.counted));
        heard = heard;
        ended = of_ok _ read goes_on is more.ended;
        at_end = of_ok _ read goes_on is more.end;
      }
  read_by_both blocks same (Err fault) both = tt

  -- what is known where memory was wanted
  wanted_now : (fault : Fault) → read ≡ Err fault → ((fault ≡ Memory) × (has_failed ≡ false))
      ⊎ ((fault ≡ ReadTrace) × IsCutShort has_failed calls)
      → (fault ≡ ReadTrace) ⊎ ((calls ≡ now.reads) × (has_ended ≡ now.ended))
      → (fault ≡ ReadTrace) ⊎ IsLeft calls has_failed has_ended next
  wanted_now fault is (inr cut) stands = inl cut.0
  wanted_now fault is (inl unfailed) (inl of_read) = inl of_read
  wanted_now fault is (inl unfailed) (inr known) = inr (record {
    counted = counted_now known.0;
    heard = unfailed.1;
    ended = ended_now known.1;
  })

-- how the reads leave the trace, whatever both answered
pub left_by_both : {E : Type 0} (left later : Option (List ℕ)) (calls : ℕ) (has_failed has_ended : Bool)
    (old now next : BlockSource) (read : Result Bool Fault) (passed : Result Unit E) (result : Result Bool Fault)
    → HasReadMore left later calls has_failed has_ended old now read → next.reads ≡ now.reads
    → next.ended ≡ now.ended → IsOfBoth read passed result → IfErr result (λ e. IfErr read (λ f. e ≡ f))
    → IfErr result (λ e. OnOk read (e ≡ Memory)) → IsLeftBy calls has_failed has_ended next result
left_by_both left later calls has_failed has_ended old now next (Ok b) passed (Ok goes_on) more reads ended both told
    wanted = record {
      bounded = more.bounded;
      known = left_now left later calls has_failed has_ended old now next (Ok b) passed more reads ended b refl;
      wanted = tt;
      cut_short = tt;
    }
left_by_both left later calls has_failed has_ended old now next (Ok b) passed (Err fault) more reads ended both told
    wanted = record {
      bounded = more.bounded;
      known = tt;
      wanted = inr (left_now left later calls has_failed has_ended old now next (Ok b) passed more reads ended b refl);
      cut_short = inl (wanted, more.heard);
    }
left_by_both left later calls has_failed has_ended old now next (Err cause) passed (Ok goes_on) more reads ended both
    told wanted = absurd cc
left_by_both left later calls has_failed has_ended old now next (Err cause) passed (Err fault) more reads ended both
    told wanted = record {
      bounded = more.bounded;
      known = tt;
      wanted = subst (λ (e : Fault). (e ≡ ReadTrace) ⊎ IsLeft calls has_failed has_ended next) (sym told)
          (wanted_now left later calls has_failed has_ended old now next (Err cause) passed more reads ended cause refl
          more.cut_short more.wanted);
      cut_short = subst (λ (e : Fault). ((e ≡ Memory) × (has_failed ≡ false))
          ⊎ ((e ≡ ReadTrace) × IsCutShort has_failed calls)) (sym told) more.cut_short;
    }
