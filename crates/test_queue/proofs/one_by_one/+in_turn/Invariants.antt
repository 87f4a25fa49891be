-- `in_turn` ends: each turn has one message fewer.
use Rattle.test_queue.proofs.one_by_one.+in_turn.Given as goal

abbrev pub decreases-in_turn : goal.decreases-in_turn
decreases-in_turn l = l.count
