use Rattle.reading.proofs.+reads_true.Given as goal

abbrev pub decreases-reads_true : goal.decreases-reads_true
decreases-reads_true l = l.levels
