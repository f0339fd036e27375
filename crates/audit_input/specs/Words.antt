-- The words of a refusal (this project's format).
use Rattle.std.specs.Prelude.{ℕ, List, codes}
use Rattle.audit_input.specs.declared.source.Source.{Source}
use Rattle.audit_input.specs.declared.source.Source.TheVariants.{Trace, Companion, Join}
use Rattle.audit_input.specs.declared.cause.Cause.{Cause}
use Rattle.audit_input.specs.declared.cause.Cause.TheVariants.{BadHead, NumberRange, LostEvents, BadFields, RealTime}
use Rattle.audit_input.specs.declared.cause.Cause.TheVariants.{PrioRange, IdleNamed, TimeBack, TooManyLines, Version}
use Rattle.audit_input.specs.declared.cause.Cause.TheVariants.{Group, BadLine, Order, TwiceNamed, TwiceRunning}
use Rattle.audit_input.specs.declared.cause.Cause.TheVariants.{LineOrder, NoTask, Short, CpuOutside, StartLate}
use Rattle.audit_input.specs.declared.cause.Cause.TheVariants.{ClaimNoEvent}

-- which text is refused
abbrev pub source_word : Source → List ℕ
source_word Trace = codes "trace"
source_word Companion = codes "companion"
source_word Join = codes "join"

-- why it is refused
abbrev pub cause_word : Cause → List ℕ
cause_word BadHead = codes "BadHead"
cause_word NumberRange = codes "NumberRange"
cause_word LostEvents = codes "LostEvents"
cause_word BadFields = codes "BadFields"
cause_word RealTime = codes "RealTime"
cause_word PrioRange = codes "PrioRange"
cause_word IdleNamed = codes "IdleNamed"
cause_word TimeBack = codes "TimeBack"
cause_word TooManyLines = codes "TooManyLines"
cause_word Version = codes "Version"
cause_word Group = codes "Group"
cause_word BadLine = codes "BadLine"
cause_word Order = codes "Order"
cause_word TwiceNamed = codes "TwiceNamed"
cause_word TwiceRunning = codes "TwiceRunning"
cause_word LineOrder = codes "LineOrder"
cause_word NoTask = codes "NoTask"
cause_word Short = codes "Short"
cause_word CpuOutside = codes "CpuOutside"
cause_word StartLate = codes "StartLate"
cause_word ClaimNoEvent = codes "ClaimNoEvent"
