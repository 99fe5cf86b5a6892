-- The measure of `answer_line::text::put_decimal`, which calls itself: the digits that may be put.
use Rattle.answer_line.proofs.text.+put_decimal.Given as goal

abbrev pub decreases-put_decimal : goal.decreases-put_decimal
decreases-put_decimal l = l.most
