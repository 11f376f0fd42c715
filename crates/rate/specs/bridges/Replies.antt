-- What a call in place says beside what it leaves of the controller. What is right is `step` of Calls.antt. Definitions only.
use Rattle.std.specs.Prelude.{Bool, false, not, ◌&&◌, ◌||◌, Result, Ok, Err}
use Rattle.limits.specs.Refusals.{Verdict}
use Rattle.limits.specs.declared.refusal.Refusal.{Refusal}
use Rattle.account.specs.declared.types.State.{State}
use Rattle.account.specs.State.{Trying, runs}
use Rattle.rate.specs.declared.types.TryMarks.{TryMarks}
use Rattle.rate.specs.Calls.{RateController, Answer}

abbrev pub Reply : Type 0
Reply = Result TryMarks Refusal

-- what it says: whether it was refused, and the marks, which are off where it was
abbrev pub said_verdict : Reply → Verdict
said_verdict (Ok m) = Ok tt
said_verdict (Err why) = Err why

abbrev pub said_ended : Reply → Bool
said_ended (Ok m) = m.ended
said_ended (Err why) = false

abbrev pub said_begun : Reply → Bool
said_begun (Ok m) = m.begun
said_begun (Err why) = false

-- the controller as the call left it, and what the call said
abbrev pub answer_of : RateController → Reply → Answer
answer_of k said = record { controller = k; verdict = said_verdict said; ended = said_ended said; begun = said_begun said }

-- accepted: the marks by the try that ran before and the state that is left
abbrev pub done_reply : Trying → State → Bool → Reply
done_reply before s begun = Ok (record { ended = runs before && (begun || not (runs s.core.trying)); begun = begun })
