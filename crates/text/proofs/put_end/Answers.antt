-- By the end: its word, letter by letter; a failure's number after it.
-- Assumes nothing.
use Rattle.lists.specs.Tab.{tab, listed}
use Rattle.text.specs.Text.{bytes}
use Rattle.text.proofs.put_end.Goals as goal

pub returns-in-Done : goal.returns-in-Done
unfolding bytes tab listed
returns-in-Done c = rw c.in-Done.is c.put_word.ensures

pub returns-in-AssertFalse : goal.returns-in-AssertFalse
unfolding bytes tab listed
returns-in-AssertFalse c = rw c.in-AssertFalse.is c.put_word-in-AssertFalse.ensures

pub returns-in-AssumeFalse : goal.returns-in-AssumeFalse
unfolding bytes tab listed
returns-in-AssumeFalse c = rw c.in-AssumeFalse.is c.put_word-in-AssumeFalse.ensures

pub returns-in-Fail : goal.returns-in-Fail
unfolding bytes tab listed
returns-in-Fail c =
    rw (c.in-Fail.is, ← c.reason_number.ensures, ← c.from.ensures) c.put_part.ensures.puts

pub returns-in-WantOfCells : goal.returns-in-WantOfCells
unfolding bytes tab listed
returns-in-WantOfCells c = rw c.in-WantOfCells.is c.put_word-in-WantOfCells.ensures

pub returns-in-OutOfSteps : goal.returns-in-OutOfSteps
unfolding bytes tab listed
returns-in-OutOfSteps c = rw c.in-OutOfSteps.is c.put_word-in-OutOfSteps.ensures

pub returns-in-ChoiceNotAllowed : goal.returns-in-ChoiceNotAllowed
unfolding bytes tab listed
returns-in-ChoiceNotAllowed c = rw c.in-ChoiceNotAllowed.is c.put_word-in-ChoiceNotAllowed.ensures

pub returns-in-NoChoiceLeft : goal.returns-in-NoChoiceLeft
unfolding bytes tab listed
returns-in-NoChoiceLeft c = rw c.in-NoChoiceLeft.is c.put_word-in-NoChoiceLeft.ensures

pub returns-in-ListFull : goal.returns-in-ListFull
unfolding bytes tab listed
returns-in-ListFull c = rw c.in-ListFull.is c.put_word-in-ListFull.ensures

pub returns-in-TooDeep : goal.returns-in-TooDeep
unfolding bytes tab listed
returns-in-TooDeep c = rw c.in-TooDeep.is c.put_word-in-TooDeep.ensures
