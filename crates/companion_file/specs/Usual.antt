-- What is told of the first line of a text, where it is an `at` line or a `charge` line, before the end of that line is
-- looked for.
use Rattle.std.specs.Prelude.{◌≡◌, ℕ, ◌≤◌, ℤ, List, ◌++◌, Some}
use Rattle.std.specs.List.{before_first, after_first}
use Rattle.cfs_model.specs.declared.claim.ClaimSort.TheVariants.{At}
use Rattle.text_parts.specs.Lines.{is_line_feed}
use Rattle.companion_file.specs.Shape.{charge_line, claim_line}
use Rattle.companion_file.specs.ShapeReading.{charge_shape_at, claim_shape_at}

-- the first line of a text is three numbers, which are read as these, behind either word; the rest follows that line
pub record HasFields (text : List ℕ) (line pid : ℕ) (v : ℤ) (rest : List ℕ) : Type 0 where
  pub claimed : claim_shape_at At (before_first is_line_feed text)
      ≡ Some (claim_line (record { line = line; pid = pid; v = v; sort = At }))
  pub charged : (version : ℕ) → 3 ≤ version → charge_shape_at version (before_first is_line_feed text)
      ≡ Some (charge_line (record { line = line; pid = pid; v = v }))
  pub rest_is : rest ≡ after_first is_line_feed text

-- so are the fields of a text that begins with a word
pub record HasLine (word text : List ℕ) (line pid : ℕ) (v : ℤ) (rest : List ℕ) : Type 0 where
  pub fields : List ℕ
  pub begins : text ≡ word ++ fields
  pub has : HasFields fields line pid v rest
