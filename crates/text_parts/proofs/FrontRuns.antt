-- How many of eight bytes in front pass a test, by the bits of those that don't.
use Rattle.std.proofs.Common.{◌≡◌, ℕ, ◌+◌, ◌≤◌, Bool, true, false, not, eqb, cond, List, map, length, take, get_or}
use Rattle.std.proofs.Common.{ap, subst, ◌∙◌, arith}
use Rattle.std.proofs.lemmas.List.{length-take-le}
use Rattle.std.proofs.lemmas.Simd.{first_set_mask_l, run_in_chunk_le, run_in_chunk_fails, run_in_chunk_stops}
use Rattle.std.specs.Simd.Lanes.{mask_l}
use Rattle.std.specs.List.{prefix_len}
use lib.Count.{count_trailing_zeros}
use Rattle.text_parts.specs.Packed.{BeginsWithRun}

module _ (passes fails : ℕ → Bool) (text : List ℕ) (long : 8 ≤ length text)
    (passed : (k : ℕ) → fails (get_or text k 0) ≡ false → passes (get_or text k 0) ≡ true)
    (failed : (k : ℕ) → fails (get_or text k 0) ≡ true → passes (get_or text k 0) ≡ false) where
  pub front_run : (mask count : ℕ) → mask ≡ mask_l (map fails (take 8 text))
      → count ≡ cond (eqb mask 0) 8 (count_trailing_zeros 64 mask) → BeginsWithRun passes text count
  front_run mask count mask_is count_is =
      let room : 0 + 8 ≤ length text = omega arith in
      let at : 0 + count ≡ count = omega arith in
      let counted : count ≡ prefix_len (λ byte. not (fails byte)) (take 8 text) =
      count_is ∙ ap (λ m. cond (eqb m 0) 8 (count_trailing_zeros 64 m)) mask_is
      ∙ first_set_mask_l fails (take 8 text) 8 (length-take-le 8 text long) (omega arith) in
      record {
        few = run_in_chunk_le fails text 0 8 count 0 room counted;
        passed = λ k lt. passed k
            (run_in_chunk_fails fails text 0 8 count 0 room counted k (omega arith) (omega arith));
        stops = λ lt. failed count
            (subst (λ n. fails (get_or text n 0) ≡ true) at
            (run_in_chunk_stops fails text 0 8 count 0 room counted lt));
      }
