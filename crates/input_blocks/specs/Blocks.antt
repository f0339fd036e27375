-- An input that is read a block at a time: what it gave so far is whole lines, which were passed on, the beginning of a
-- line, and what wasn't passed on yet (this project's profile).
use Rattle.std.specs.Prelude.{◌≡◌, ℕ, ◌+◌, ◌*◌, ◌^◌, ◌<◌, ◌≤◌, Bool, true, false, List, [], ◌++◌, length, take, Option}
use Rattle.std.specs.Io.KnownBytes.{Consumes}
use Rattle.audit_input.specs.Known.{Agrees}
use Rattle.text_parts.specs.Lines.{lines_of, IsWhole}
use Rattle.input_blocks.specs.Held.{IsHeld, PassesOn}
use Rattle.input_blocks.specs.declared.block.Block.{Block}
use Rattle.input_blocks.specs.declared.block_source.BlockSource.{BlockSource}
use Rattle.input_blocks.specs.declared.line_blocks.LineBlocks.{LineBlocks}
use Rattle.input_blocks.specs.declared.passing.Passing.{Passing}

-- what came and wasn't passed on
abbrev pub filled : Block → List ℕ
filled block = take block.length block.bytes.items

-- the same of both blocks, one behind the other
abbrev pub waiting : LineBlocks → List ℕ
waiting blocks = filled blocks.passing.ahead ++ filled blocks.source.block

-- no read was made, and nothing is held
pub record IsFresh (blocks : LineBlocks) : Type 0 where
  pub none : blocks.passing.begun.bytes.items ≡ []
  pub unsettled : blocks.passing.begun.settled ≡ false
  pub ahead : filled blocks.passing.ahead ≡ []
  pub unread : filled blocks.source.block ≡ []
  pub reads : blocks.source.reads ≡ 0

-- one read gave so many bytes, which stand behind those before
pub record IsReadBehind (before after : Option (List ℕ)) (old new : Block) (count : ℕ) : Type 0 where
  pub bytes : List ℕ
  pub behind : filled new ≡ filled old ++ bytes
  pub few : length bytes ≤ count
  pub consumed : Consumes before after bytes

-- reads gave bytes, which stand behind those before, and are no more than so many reads ask for
pub record HasReadOn (before after : Option (List ℕ)) (old new : BlockSource) : Type 0 where
  pub bytes : List ℕ
  pub behind : filled new.block ≡ filled old.block ++ bytes
  pub consumed : Consumes before after bytes
  pub same_size : new.size ≡ old.size
  pub few : old.reads * old.size + length bytes ≤ new.reads * old.size

-- what was read ahead was passed on: its lines that end, with the line that had begun before
abbrev pub IsPassed : {R : Type 0} → (R → R → List (List ℕ) → Type 0) → R → R → Passing → Passing → Type 0
IsPassed reads old new before after =
    (line : List ℕ) → IsHeld reads before.begun line
    → PassesOn reads old new (line ++ filled before.ahead) after.begun

-- of an input that gave bytes before it had these left, these whole lines were passed on, and enough is held of the
-- line behind them
pub record IsAmid {R : Type 0} (reads : R → R → List (List ℕ) → Type 0) (gave left : Option (List ℕ))
    (blocks : LineBlocks) (done : List ℕ) : Type 0
  where
    pub whole : IsWhole done
    pub line : List ℕ
    pub is_held : IsHeld reads blocks.passing.begun line
    pub consumed : Consumes gave left ((done ++ line) ++ waiting blocks)
    pub few : length ((done ++ line) ++ waiting blocks) ≤ blocks.source.reads * blocks.source.size

-- the input goes on behind these bytes, or they are all that it gave
abbrev pub IsThen : {R : Type 0} → (R → R → List (List ℕ) → Type 0) → Option (List ℕ) → Option (List ℕ) → LineBlocks
    → List ℕ → Bool → Type 0
IsThen reads gave left blocks done true = IsAmid reads gave left blocks done
IsThen reads gave left blocks done false = Agrees gave done

-- behind what was passed on a reader has read the lines of more bytes, and then the input goes on, or was read to its
-- end
pub record ComesTo {R : Type 0} (reads : R → R → List (List ℕ) → Type 0) (old new : R) (gave left : Option (List ℕ))
    (blocks : LineBlocks) (done : List ℕ) (goes_on : Bool) : Type 0
  where
    pub more : List ℕ
    pub lines : lines_of (done ++ more) ≡ lines_of done ++ lines_of more
    pub read : reads old new (lines_of more)
    -- they are few enough to be numbered
    pub few : length (lines_of (done ++ more)) + 1 < 2 ^ 64
    pub next : IsThen reads gave left blocks (done ++ more) goes_on

-- a reader has read the lines of all that an input gave
abbrev pub ReadsAll : {R : Type 0} → (R → R → List (List ℕ) → Type 0) → R → R → Option (List ℕ) → Type 0
ReadsAll reads old new gave = (text : List ℕ) × Agrees gave text × reads old new (lines_of text)
