-- A refusal's number is never 0, the number of what is done.
use Rattle.std.proofs.Common.{◌≡◌, false, refl}
use Rattle.std.specs.Prelude.{◌==◌}
use Rattle.bodies.specs.declared.refusals.Refusal.{Refusal}
use Rattle.bodies.specs.declared.refusals.Refusal.TheVariants.{BadNumber, OutsideLimits, QueueFull, NotAnEdit, BadShape, BadAddress, BadRecord, LaneFull, ShortBuffer, CountTooHigh, MalformedLine, BadLinkLog, BadLimit, Conflict, BadDesk, BadListing, BadEdition, BadQuestion, AlreadyIssued, BadContest}
use Rattle.bodies.specs.Refusals.{number}

pub refused : (r : Refusal) → (number r == 0) ≡ false
refused BadNumber = refl
refused OutsideLimits = refl
refused QueueFull = refl
refused NotAnEdit = refl
refused BadShape = refl
refused BadAddress = refl
refused BadRecord = refl
refused LaneFull = refl
refused ShortBuffer = refl
refused CountTooHigh = refl
refused MalformedLine = refl
refused BadLinkLog = refl
refused BadLimit = refl
refused Conflict = refl
refused BadDesk = refl
refused BadListing = refl
refused BadEdition = refl
refused BadQuestion = refl
refused AlreadyIssued = refl
refused BadContest = refl
