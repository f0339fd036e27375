-- What reads bring stands behind what was there, and is no more than they ask for.
use Rattle.std.proofs.Common.{◌≡◌, ℕ, ◌+◌, ◌*◌, ◌≤◌, List, ◌++◌, length, take, drop, Option}
use Rattle.std.proofs.Common.{ap, ◌∙◌, arith, append_assoc, length-append}
use Rattle.std.proofs.KnownBytes.{Consumes-trans}
use Rattle.std.proofs.Math.Nat.{add-mul, one-mul}
use Rattle.std.proofs.Math.Seq.{take-add}
use Rattle.std.proofs.lemmas.List.{length-take}
use Rattle.std.specs.Io.KnownBytes.{Consumes}
use Rattle.input_blocks.specs.Blocks.{HasReadOn, IsReadBehind, filled}
use Rattle.input_blocks.specs.declared.block.Block.{Block}
use Rattle.input_blocks.specs.declared.block_source.BlockSource.{BlockSource}

-- one read of a block
pub read_behind : (before after : Option (List ℕ)) (old new : Block) (count : ℕ) → new.length ≡ old.length + count
    → take old.length new.bytes.items ≡ take old.length old.bytes.items
    → Consumes before after (take count (drop old.length new.bytes.items)) → IsReadBehind before after old new count
read_behind before after old new count long front came = record {
  bytes = take count (drop old.length new.bytes.items);
  behind = ap (λ n. take n new.bytes.items) long ∙ take-add old.length count new.bytes.items
      ∙ ap (λ (t : List ℕ). t ++ take count (drop old.length new.bytes.items)) front;
  few = (let n = length-take count (drop old.length new.bytes.items) in omega (arith, n));
  consumed = came;
}

product_one : (reads size : ℕ) → (reads + 1) * size ≡ reads * size + size
product_one reads size = add-mul reads 1 size ∙ ap (λ n. reads * size + n) (one-mul size)

-- one read of a source
pub read_one : (before after : Option (List ℕ)) (old new : BlockSource) (count : ℕ) → new.reads ≡ old.reads + 1
    → new.size ≡ old.size → count ≤ old.size → IsReadBehind before after old.block new.block count
    → HasReadOn before after old new
read_one before after old new count one same within behind = record {
  bytes = behind.bytes;
  behind = behind.behind;
  consumed = behind.consumed;
  same_size = same;
  few = (
      let more = behind.few in
      let product = product_one old.reads old.size in
      let now : new.reads * old.size ≡ (old.reads + 1) * old.size = ap (λ n. n * old.size) one in
      omega (arith, more, within, product, now)
      );
}

-- reads behind reads
pub read_further : (before mid after : Option (List ℕ)) (old one new : BlockSource) → HasReadOn before mid old one
    → HasReadOn mid after one new → HasReadOn before after old new
read_further before mid after old one new first then = record {
  bytes = first.bytes ++ then.bytes;
  behind = then.behind ∙ ap (λ (t : List ℕ). t ++ then.bytes) first.behind
      ∙ append_assoc (filled old.block) first.bytes then.bytes;
  consumed = Consumes-trans before mid after first.bytes then.bytes first.consumed then.consumed;
  same_size = then.same_size ∙ first.same_size;
  few = (
      let a = first.few in
      let b = then.few in
      let n = length-append first.bytes then.bytes in
      let p : one.reads * one.size ≡ one.reads * old.size = ap (λ z. one.reads * z) first.same_size in
      let q : new.reads * one.size ≡ new.reads * old.size = ap (λ z. new.reads * z) first.same_size in
      omega (arith, a, b, n, p, q)
      );
}
