use Rattle.conjoin.proofs.+conjoin.Given as goal

-- how many of the last inputs there are
abbrev pub decreases-conjoin : goal.decreases-conjoin
decreases-conjoin l = l.left
