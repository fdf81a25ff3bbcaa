use Rattle.std.proofs.Common.{◌≡◌, ◌<◌, ◌≤◌, ◌∙◌, List, ℕ, None, length, drop, sym, ap, subst, arith, rules}
use Rattle.std.specs.Prelude.{All}
use Rattle.std.proofs.Math.ListN.{get_or}
use Rattle.journal_keeper.specs.Journals.{AreKeepable, labelled}
use Rattle.kept_account.proofs.Keepables.{keepable_behind}
use Rattle.kept_run.proofs.OpenLemmas.{none_foreign}
use Rattle.kept_run.proofs.TextLemmas.{all_go_on, all_read_back, more_go_on, more_read_back, nameless, no_account, none_goes_on, texts_more, within_at}
use Rattle.kept_run.proofs.TurnLemmas.{turns_at}
use Rattle.kept_run.specs.Lines.{AreReadBack}
use Rattle.kept_account.specs.Values.{IsEntryValue}
use Rattle.account_core.specs.Trails.{AreSoundFrom}
use Rattle.cal_model.specs.GoesOn.{GoesOn}
use Rattle.spec_history.specs.History.{changes_of}
use Rattle.spec_history.specs.Base.{Base}
use Rattle.spec_history.specs.declared.entry.Entry.{Entry}
use Rattle.kept_run.proofs.texts.new_texts.Goals as goal

pub added_since-requires : goal.added_since-requires
added_since-requires c =
    let there : c.loop-n.n < length c.args.places.now = omega (arith, c.accounts-n-end.ensures, c.requires.each) in
    let beside : c.loop-n.n < length c.args.desk.now.0 = omega (arith, c.accounts-n-end.ensures, c.requires.all) in
    subst (λ (a : Base × List Entry). get_or c.args.places.now c.loop-n.n 0 ≤ length a.1) (sym c.account-account.ensures) (within_at c.loop-n.n c.args.places.now c.args.desk.now.0 c.requires.within there beside)

pub loop-n-init : goal.loop-n-init
loop-n-init c = record { texts = search rules; read_back = tt; go_on = none_goes_on c.args.desk.now.0 }

pub loop-n-preserved : goal.loop-n-preserved
loop-n-preserved c =
    let inside : c.loop-n.n < length c.args.site.now.accounts = omega (arith, c.accounts-n-end.ensures) in
    let there : c.loop-n.n < length c.args.places.now = omega (arith, c.accounts-n-end.ensures, c.requires.each) in
    let beside : c.loop-n.n < length c.args.desk.now.0 = omega (arith, c.accounts-n-end.ensures, c.requires.all) in
    let account : c.account-account.result.now ≡ get_or c.args.desk.now.0 c.loop-n.n no_account = c.account-account.ensures in
    let added : c.in-Some.added.now ≡ drop (get_or c.args.places.now c.loop-n.n 0) (get_or c.args.desk.now.0 c.loop-n.n no_account).1 =
    c.in-Some.ensures.entries ∙ ap (λ (a : Base × List Entry). drop (get_or c.args.places.now c.loop-n.n 0) a.1) account in
    let more : c.in_ok-more.more.items ≡ labelled (get_or c.args.site.now.accounts c.loop-n.n nameless).id (drop (get_or c.args.places.now c.loop-n.n 0) (get_or c.args.desk.now.0 c.loop-n.n no_account).1) =
    c.in_ok-more.ensures.texts ∙ (λ i. labelled (c.account_id.ensures nameless i) (added i)) in
    let place : ℕ = get_or c.args.places.now c.loop-n.n 0 in
    let own : Base × List Entry = get_or c.args.desk.now.0 c.loop-n.n no_account in
    let goes : GoesOn own.0.zones (changes_of own.1) = subst (λ (a : Base × List Entry). GoesOn a.0.zones (changes_of a.1)) account c.goes_on.ensures in
    let sound : AreSoundFrom own.0.zones place own.1 = subst (λ (a : Base × List Entry). AreSoundFrom a.0.zones place a.1) account c.in-Some.ensures.sound in
    let keepable : AreKeepable (drop place own.1) =
    keepable_behind own.0.zones own.1 place goes.numbered sound (subst (All IsEntryValue) added c.are_entry_values.ensures) (turns_at c.loop-n.n c.args.places.now c.args.desk.now.0 there beside c.requires.turns) in
    let back : AreReadBack (drop place own.1) = subst AreReadBack added (c.in_ok-more.ensures.read_back (subst AreKeepable (sym added) keepable)) in
    record {
      texts = texts_more c.loop-n.n c.args.site.now.accounts c.args.places.now c.args.desk.now.0 inside there beside _ _ _ c.loop-n.invariant.texts more c.in_ok-append.ensures.items;
      read_back = more_read_back c.loop-n.n c.args.places.now c.args.desk.now.0 there beside c.loop-n.invariant.read_back back;
      go_on = more_go_on c.loop-n.n c.args.desk.now.0 beside c.loop-n.invariant.go_on
          (record { own = none_foreign _ (c.all_entries_are_its_own.ensures c.loop-n.n); goes_on = goes });
    }

pub returns-clause-read_back : goal.returns-clause-read_back
returns-clause-read_back c = all_read_back c.loop-n.n c.args.places.now c.args.desk.now.0 (omega (arith, c.accounts-n-end.ensures, c.requires.each)) (omega (arith, c.accounts-n-end.ensures, c.requires.all)) c.loop-n.invariant.read_back

pub returns-clause-go_on : goal.returns-clause-go_on
returns-clause-go_on c = all_go_on c.loop-n.n c.args.desk.now.0 (omega (arith, c.accounts-n-end.ensures, c.requires.all)) c.loop-n.invariant.go_on
