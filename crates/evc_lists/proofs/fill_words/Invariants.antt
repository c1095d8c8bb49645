-- The words passed are those of the states, the others as they were.
use Rattle.std.proofs.Common.{◌≡◌, ◌++◌, map, take, drop}
use Rattle.evc_lists.specs.Units.{word_of}
use Rattle.evc_lists.proofs.fill_words.Given as goal

abbrev pub invariant-loop-i : goal.invariant-loop-i
invariant-loop-i l = l.words ≡ map word_of (take l.i l.states) ++ drop l.i l.fn.words
