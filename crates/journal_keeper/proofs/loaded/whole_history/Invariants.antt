use Rattle.journal_keeper.proofs.loaded.whole_history.Given as goal

abbrev pub ghost-of : goal.ghost-of
ghost-of a = λ v. v.items
