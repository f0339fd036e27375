-- The spans by pid and line. Idle lines that rise are different, so the spans that they begin are too, in every order;
-- and what is sorted and different rises.
use Rattle.std.proofs.Common.{◌≡◌, ℕ, ◌<◌, Bool, false, ◌&&◌, eqb, List, [], ◌∷◌, length, map, get_or, refl, ◌∙◌, arith}
use Rattle.std.specs.Prelude.{AllPairs}
use Rattle.std.specs.List.{IsDistinct}
use Rattle.std.specs.List.Sorted.{IsPermutation, IsSortedByKey}
use Rattle.std.specs.Ordering.{nat_cmp, ordering_then, is_lt}
use Rattle.std.specs.declared.cmp.Ordering.{Ordering}
use Rattle.std.specs.Cmp.{IsTotalOrder}
use Rattle.std.proofs.lemmas.Bool.Decides.{nat_tests}
use Rattle.std.proofs.lemmas.Cmp.{nat_cmp_total, on_total, then_total}
use Rattle.std.proofs.lemmas.List.{get_or-map, length-map}
use Rattle.std.proofs.lemmas.List.Sorted.{list_any-IsPermutation, ranks_by, sorted_far}
use Rattle.std.proofs.lemmas.Map.Keys.{IsDistinct-IsPermutation, IsDistinct-from_apart, apart_from_distinct}
use Rattle.cfs_model.specs.Claimed.{is_named_idle}
use Rattle.cfs_model.specs.declared.idle_line.IdleLine.{IdleLine}
use Rattle.companion_file.specs.declared.idle_span.IdleSpan.{IdleSpan}
use Rattle.companion_file.specs.Order.{IdleRises}
use Rattle.companion_file.specs.Spans.{span_of, starts_span, SpanRises, AreSpansOf}

-- two spans of one pid start at one line
abbrev same_span : IdleSpan → IdleSpan → Bool
same_span a b = eqb a.pid b.pid && eqb a.from b.from

abbrev by_start : IdleSpan → IdleSpan → Ordering
by_start a b = ordering_then (nat_cmp a.pid b.pid) (nat_cmp a.from b.from)

eqb_flips : (m n : ℕ) → eqb m n ≡ eqb n m
eqb_flips m n = grind (arith, nat_tests)

same_flips : (a b : IdleSpan) → same_span a b ≡ same_span b a
same_flips a b = rw (eqb_flips a.pid b.pid, eqb_flips a.from b.from) refl

by_start_total : IsTotalOrder by_start
by_start_total = then_total (on_total (λ (a : IdleSpan). a.pid) nat_cmp_total)
    (on_total (λ (a : IdleSpan). a.from) nat_cmp_total)

-- an idle line that follows another one has another line or another pid
apart_lines : (a b : IdleLine) → IdleRises a b → same_span (span_of a) (span_of b) ≡ false
apart_lines a b rises = grind (arith, nat_tests, rises.lines, rises.pids)

begun_distinct : (idles : List IdleLine) → AllPairs IdleRises idles → IsDistinct same_span (map span_of idles)
begun_distinct idles rise =
    IsDistinct-from_apart same_span (map span_of idles)
    (λ i j d lt within.
    let below : j < length idles = rw (length-map idles span_of) at within in
    let e : IdleLine = record { line = 0; pid = 0 } in
    rw (get_or-map span_of idles i e d (omega arith), get_or-map span_of idles j e d below)
    (apart_lines (get_or idles i e) (get_or idles j e) (rise i j e lt below)))

begun_starts : (idles : List IdleLine) (line pid : ℕ)
    → is_named_idle idles line pid ≡ starts_span (map span_of idles) line pid
begun_starts [] line pid = refl
begun_starts (k ∷ idles) line pid = rw (begun_starts idles line pid) refl

-- what isn't below another and isn't the same is above it
rises_apart : (a b : IdleSpan) → is_lt (by_start b a) ≡ false → same_span a b ≡ false → SpanRises a b
rises_apart a b sorted apart = record { pids = grind (arith, nat_tests); lines = λ same. grind (arith, nat_tests) }

pub sorted_spans : (idles : List IdleLine) (begun spans : List IdleSpan) → AllPairs IdleRises idles
    → begun ≡ map span_of idles → IsPermutation begun spans
    → IsSortedByKey (λ (a : IdleSpan). a) by_start spans → AreSpansOf idles spans
sorted_spans idles begun spans rise is moved sorted =
    let same : IsPermutation (map span_of idles) spans = rw is at moved in
    let distinct = IsDistinct-IsPermutation same_span same_flips (map span_of idles) spans same
    (begun_distinct idles rise) in
    record {
      rise = λ i j d lt within.
          rises_apart (get_or spans i d) (get_or spans j d)
          (sorted_far (λ a b. is_lt (by_start a b)) (ranks_by by_start_total (λ (a : IdleSpan). a)) spans sorted i j d
          (omega arith) within)
          (apart_from_distinct same_span spans i j d distinct lt within);
      starts = λ line pid.
          begun_starts idles line pid ∙ list_any-IsPermutation (λ (a : IdleSpan). eqb a.from line && eqb a.pid pid)
          (map span_of idles) spans same;
    }
