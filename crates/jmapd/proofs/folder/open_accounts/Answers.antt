use Rattle.std.proofs.Common.{◌≡◌, ◌<◌, ◌∷◌, [], None, arith, length, length-append, rules, subst, sym}
use Rattle.std.proofs.lemmas.List.Elements.{All-push}
use Rattle.std.specs.Prelude.{All}
use Rattle.cal_model.specs.GoesOn.{GoesOn}
use Rattle.jmapd.proofs.FolderLemmas.{all_bases, bases_more}
use Rattle.spec_history.specs.History.{changes_of}
use Rattle.jmapd.proofs.folder.open_accounts.Goals as goal

pub loop-n-preserved : goal.loop-n-preserved
loop-n-preserved c =
    let there : c.loop-n.n < length c.args.site.now.accounts = omega (arith, c.accounts-count.ensures) in
    let count = length-append c.loop-n.accounts.items (c.in_ok-account.account ∷ []) in
    record {
      bases = bases_more (λ a. a.0) c.args.site.now c.loop-n.n c.loop-n.accounts.items c.push_reserved.new.self.items c.in_ok-account.account there c.loop-n.invariant.bases c.push_reserved.ensures.items c.in_ok-account.ensures.base;
      go_on = subst (All (λ a. GoesOn a.0.zones (changes_of a.1))) (sym c.push_reserved.ensures.items) (All-push (λ a. GoesOn a.0.zones (changes_of a.1)) c.loop-n.accounts.items c.in_ok-account.account c.loop-n.invariant.go_on c.in_ok-account.ensures.goes_on);
      many = search rules;
      room = search rules;
      faults = omega (arith, c.loop-n.invariant.faults, c.in_ok-account.ensures.later.0);
      damages = omega (arith, c.loop-n.invariant.damages, c.in_ok-account.ensures.later.1);
    }

pub returns-clause-bases : goal.returns-clause-bases
returns-clause-bases c = all_bases (λ a. a.0) c.args.site.now c.loop-n.n c.loop-n.accounts.items (omega (arith, c.accounts-count.ensures)) c.loop-n.invariant.bases
