-- The pairs are chained if those before this one were and what is left of them is, from where the last body ended.
use Rattle.question.specs.File.{event_count}
use Rattle.question.proofs.Pairs.{Chained}
use Rattle.question.proofs.file.ok_pairs.Given as goal

abbrev pub invariant-loop-bytes : goal.invariant-loop-bytes
invariant-loop-bytes l = Chained l.file (event_count l.file) l.bytes-index l.at
