-- What is left of the list gives, from here on, what the whole list gives.
use Rattle.std.proofs.Common.{◌≡◌, drop}
use Rattle.account.specs.declared.types.State.{State}
use Rattle.rules.specs.bridges.Pass.{pass_all, begin_pass, turned_all}
use Rattle.rules.specs.bridges.Ageing.{booked_all}
use Rattle.rules.proofs.pass.book_frames.Given as goal

abbrev pub invariant-loop-f : goal.invariant-loop-f
invariant-loop-f l =
    let rest = drop l.f-index l.frames in
    record {
      accounts : ◌≡◌ {A = State} (record l.s { accounts = booked_all l.t l.fades rest l.s.accounts }) (record l.initial.s { accounts = booked_all l.t l.initial.fades l.frames l.initial.s.accounts });
      pass : pass_all l.t l.s.core l.pass rest ≡ pass_all l.t l.initial.s.core (begin_pass l.initial.s.core) l.frames;
      fades : turned_all l.t l.fades rest ≡ turned_all l.t l.initial.fades l.frames;
    }
