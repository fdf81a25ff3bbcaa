use Rattle.std.proofs.Common.{◌≡◌, take}
use Rattle.kept_run.specs.Lines.{MayAllGoOn, NewAreReadBack, texts_behind}
use Rattle.kept_run.proofs.texts.new_texts.Given as goal

abbrev pub invariant-loop-n : goal.invariant-loop-n
invariant-loop-n l = record {
  texts : l.texts.items ≡ texts_behind (take l.n l.site.accounts) (take l.n l.places) (take l.n l.desk.0);
  read_back : NewAreReadBack (take l.n l.places) (take l.n l.desk.0);
  go_on : MayAllGoOn (take l.n l.desk.0);
}
