-- The first line and lines about groups, by what follows their first bytes.
use Rattle.std.proofs.Common.{◌≡◌, ◌⊎◌, ℕ, ◌<◌, true, eqb, List, [], ◌∷◌, ◌++◌, length, get_or, Some, None, sym, ap}
use Rattle.std.proofs.Common.{◌∙◌, inl, inr, arith}
use Rattle.std.specs.Prelude.{codes}
use Rattle.std.proofs.lemmas.Bool.{eqb-true, eq-eqb}
use Rattle.std.proofs.lemmas.List.{nil_from_length}
use Rattle.text_parts.specs.Reading.{after_text}
use Rattle.text_parts.proofs.Runs.{text_taken, text_again}
use Rattle.std.proofs.lemmas.Option.{same_Some}
use Rattle.companion_file.specs.Spelling.{IsControlGroup}

-- what stands behind the word in a line about a group
behind_group : (line : List ℕ) → IsControlGroup line
    → (after_text (codes "cgroup") line ≡ Some []) ⊎ ((rest : List ℕ)
    × (after_text (codes "cgroup") line ≡ Some (32 ∷ rest)))
behind_group line (inl p) = inl (ap (after_text (codes "cgroup")) p ∙ text_again (codes "cgroup") [])
behind_group line (inr p) = inr (p.0, ap (after_text (codes "cgroup")) p.1 ∙ text_again (codes "cgroup") (32 ∷ p.0))

pub no_group_word : (line : List ℕ) → after_text (codes "cgroup") line ≡ None → ¬ IsControlGroup line
no_group_word line e group = elim (behind_group line group) [ inl p ↦ absurd cc | inr p ↦ let f = p.1 in absurd cc ]

pub group_alone : (line rest : List ℕ) → after_text (codes "cgroup") line ≡ Some rest → length rest < 1
    → IsControlGroup line
group_alone line rest e empty = inl (text_taken (codes "cgroup") line rest e
    ∙ ap (λ (s : List ℕ). codes "cgroup" ++ s) (nil_from_length rest (omega arith)))

pub group_named : (line rest : List ℕ) → after_text (codes "cgroup") line ≡ Some rest → 0 < length rest
    → (eqb (get_or rest 0 0) 32 ≡ true → IsControlGroup line) × (IsControlGroup line → eqb (get_or rest 0 0) 32 ≡ true)
group_named line [] e some = absurd (omega arith)
group_named line (b ∷ rest) e some = (
  λ space. inr (
    rest,
    text_taken (codes "cgroup") line (b ∷ rest) e
        ∙ ap (λ (k : ℕ). codes "cgroup" ++ k ∷ rest) (eqb-true b 32 space),
  ),
  λ group. elim (behind_group line group) [
    | inl p ↦ absurd cc
    | inr p ↦
        let same : b ∷ rest ≡ 32 ∷ p.0 = same_Some (b ∷ rest) (32 ∷ p.0) (sym e ∙ p.1) in
        let head : b ≡ 32 = cc in
        eq-eqb b 32 head
  ],
)
