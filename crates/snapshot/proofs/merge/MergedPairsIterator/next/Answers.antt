use Rattle.snapshot.proofs.merge.MergedPairsIterator.next.Goals as goal

pub returns-in-Greater-clause-short : goal.returns-in-Greater-clause-short
returns-in-Greater-clause-short c = c.look.new.self.short _ c.in-Some-ahead.is
