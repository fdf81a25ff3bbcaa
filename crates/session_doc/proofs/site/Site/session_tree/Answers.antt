use Rattle.std.proofs.Common.{◌++◌, ◌∙◌, ap, map, refl, subst, sym}
use Rattle.std.proofs.lemmas.List.{map-append}
use Rattle.std.proofs.lemmas.Result.{IfOk-weaker}
use Rattle.spec_json.specs.Data.{members_of, object}
use Rattle.spec_json.specs.ObjectKeys.{HasOrderedKeys}
use Rattle.spec_json.specs.TreeData.{data_of, keyed}
use Rattle.spec_site.specs.Configuration.{user_at}
use Rattle.session_doc.proofs.SessionMembers.{members_together}
use Rattle.session_doc.proofs.site.Site.session_tree.Goals as goal

pub object-requires : goal.object-requires
object-requires c =
    subst HasOrderedKeys
    (sym (ap (map keyed) c.in_ok-append.ensures.items ∙ map-append keyed _ _ ∙ (λ i. c.in_ok-members.ensures i ++ c.in_ok-trailing.ensures c.args.self.now i))) refl

pub returns : goal.returns
returns c =
    let site = c.args.self.now in
    let user = user_at site c.args.user in
    let granted = c.items-grants.ensures ∙ ap (λ u. u.grants) c.user-user.ensures.value in
    let joined = ap (map keyed) c.in_ok-append.ensures.items ∙ map-append keyed _ _ ∙ (λ i. c.in_ok-members.ensures i ++ c.in_ok-trailing.ensures site i) in
    let together = members_together site user c.base_url-base.result.now c.deref.result.now c.deref-2.result.now c.user-user.result.now.name
    c.base_url-base.ensures (c.deref.ensures.value ∙ granted) (c.deref-2.ensures.value ∙ granted) (ap (λ u. u.name) c.user-user.ensures.value) in
    IfOk-weaker c.object.result _ _ (λ t e. ap data_of e ∙ ap (λ ms. object (members_of ms)) joined ∙ together) c.object.ensures
