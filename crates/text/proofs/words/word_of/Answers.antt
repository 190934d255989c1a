-- `text::words::word_of` meets its contract: a field that is a word is not looked at again, and any other is passed on.
use Rattle.std.proofs.Common.{refl}
use Rattle.text.specs.Words.{word_of}
use Rattle.text.proofs.WordLaws.{here, past}
use Rattle.text.proofs.words.word_of.Goals as goal

pub returns-then-is : goal.returns-then-is
unfolding word_of
returns-then-is c = here _ _ _ _ c.is.ensures c.if-is.true

pub returns-then-is-2 : goal.returns-then-is-2
unfolding word_of
returns-then-is-2 c = past _ _ _ _ _ c.is.ensures c.if-is.false (here _ _ _ _ c.is-2.ensures c.if-is-2.true)

pub returns-then-is-3 : goal.returns-then-is-3
unfolding word_of
returns-then-is-3 c = past _ _ _ _ _ c.is.ensures c.if-is.false (past _ _ _ _ _ c.is-2.ensures c.if-is-2.false (here _ _ _ _ c.is-3.ensures c.if-is-3.true))

pub returns-then-is-4 : goal.returns-then-is-4
unfolding word_of
returns-then-is-4 c = past _ _ _ _ _ c.is.ensures c.if-is.false (past _ _ _ _ _ c.is-2.ensures c.if-is-2.false (past _ _ _ _ _ c.is-3.ensures c.if-is-3.false (here _ _ _ _ c.is-4.ensures c.if-is-4.true)))

pub returns-then-is-5 : goal.returns-then-is-5
unfolding word_of
returns-then-is-5 c = past _ _ _ _ _ c.is.ensures c.if-is.false (past _ _ _ _ _ c.is-2.ensures c.if-is-2.false (past _ _ _ _ _ c.is-3.ensures c.if-is-3.false (past _ _ _ _ _ c.is-4.ensures c.if-is-4.false (here _ _ _ _ c.is-5.ensures c.if-is-5.true))))

pub returns-then-is-6 : goal.returns-then-is-6
unfolding word_of
returns-then-is-6 c = past _ _ _ _ _ c.is.ensures c.if-is.false (past _ _ _ _ _ c.is-2.ensures c.if-is-2.false (past _ _ _ _ _ c.is-3.ensures c.if-is-3.false (past _ _ _ _ _ c.is-4.ensures c.if-is-4.false (past _ _ _ _ _ c.is-5.ensures c.if-is-5.false (here _ _ _ _ c.is-6.ensures c.if-is-6.true)))))

pub returns-then-is-7 : goal.returns-then-is-7
unfolding word_of
returns-then-is-7 c = past _ _ _ _ _ c.is.ensures c.if-is.false (past _ _ _ _ _ c.is-2.ensures c.if-is-2.false (past _ _ _ _ _ c.is-3.ensures c.if-is-3.false (past _ _ _ _ _ c.is-4.ensures c.if-is-4.false (past _ _ _ _ _ c.is-5.ensures c.if-is-5.false (past _ _ _ _ _ c.is-6.ensures c.if-is-6.false (here _ _ _ _ c.is-7.ensures c.if-is-7.true))))))

pub returns-then-is-8 : goal.returns-then-is-8
unfolding word_of
returns-then-is-8 c = past _ _ _ _ _ c.is.ensures c.if-is.false (past _ _ _ _ _ c.is-2.ensures c.if-is-2.false (past _ _ _ _ _ c.is-3.ensures c.if-is-3.false (past _ _ _ _ _ c.is-4.ensures c.if-is-4.false (past _ _ _ _ _ c.is-5.ensures c.if-is-5.false (past _ _ _ _ _ c.is-6.ensures c.if-is-6.false (past _ _ _ _ _ c.is-7.ensures c.if-is-7.false (here _ _ _ _ c.is-8.ensures c.if-is-8.true)))))))

pub returns-then-is-9 : goal.returns-then-is-9
unfolding word_of
returns-then-is-9 c = past _ _ _ _ _ c.is.ensures c.if-is.false (past _ _ _ _ _ c.is-2.ensures c.if-is-2.false (past _ _ _ _ _ c.is-3.ensures c.if-is-3.false (past _ _ _ _ _ c.is-4.ensures c.if-is-4.false (past _ _ _ _ _ c.is-5.ensures c.if-is-5.false (past _ _ _ _ _ c.is-6.ensures c.if-is-6.false (past _ _ _ _ _ c.is-7.ensures c.if-is-7.false (past _ _ _ _ _ c.is-8.ensures c.if-is-8.false (here _ _ _ _ c.is-9.ensures c.if-is-9.true))))))))

pub returns-then-is-10 : goal.returns-then-is-10
unfolding word_of
returns-then-is-10 c = past _ _ _ _ _ c.is.ensures c.if-is.false (past _ _ _ _ _ c.is-2.ensures c.if-is-2.false (past _ _ _ _ _ c.is-3.ensures c.if-is-3.false (past _ _ _ _ _ c.is-4.ensures c.if-is-4.false (past _ _ _ _ _ c.is-5.ensures c.if-is-5.false (past _ _ _ _ _ c.is-6.ensures c.if-is-6.false (past _ _ _ _ _ c.is-7.ensures c.if-is-7.false (past _ _ _ _ _ c.is-8.ensures c.if-is-8.false (past _ _ _ _ _ c.is-9.ensures c.if-is-9.false (here _ _ _ _ c.is-10.ensures c.if-is-10.true)))))))))

pub returns : goal.returns
unfolding word_of
returns c = past _ _ _ _ _ c.is.ensures c.if-is.false (past _ _ _ _ _ c.is-2.ensures c.if-is-2.false (past _ _ _ _ _ c.is-3.ensures c.if-is-3.false (past _ _ _ _ _ c.is-4.ensures c.if-is-4.false (past _ _ _ _ _ c.is-5.ensures c.if-is-5.false (past _ _ _ _ _ c.is-6.ensures c.if-is-6.false (past _ _ _ _ _ c.is-7.ensures c.if-is-7.false (past _ _ _ _ _ c.is-8.ensures c.if-is-8.false (past _ _ _ _ _ c.is-9.ensures c.if-is-9.false (past _ _ _ _ _ c.is-10.ensures c.if-is-10.false refl)))))))))
