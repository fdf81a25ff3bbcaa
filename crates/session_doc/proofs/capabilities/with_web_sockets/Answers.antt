use Rattle.std.proofs.Common.{◌∷◌, ◌++◌, [], ◌∙◌, ap, map, refl, subst, sym}
use Rattle.std.proofs.lemmas.List.{map-append}
use Rattle.std.proofs.lemmas.Result.{IfOk-weaker}
use Rattle.spec_core.specs.Capabilities.{websocket}
use Rattle.spec_json.specs.Data.{members_of, object}
use Rattle.spec_json.specs.ObjectKeys.{HasOrderedKeys}
use Rattle.spec_json.specs.TreeData.{data_of, keyed}
use Rattle.session_doc.proofs.capabilities.with_web_sockets.Goals as goal

pub object-requires : goal.object-requires
object-requires c =
    subst HasOrderedKeys
    (sym (ap (map keyed) c.in_ok-push.ensures.items ∙ map-append keyed _ _ ∙ (λ i. c.in_ok-members.ensures i ++ (websocket, c.in_ok-web_socket_capability.ensures i) ∷ []))) refl

pub returns : goal.returns
returns c =
    let joined = ap (map keyed) c.in_ok-push.ensures.items ∙ map-append keyed _ _ ∙ (λ i. c.in_ok-members.ensures i ++ (websocket, c.in_ok-web_socket_capability.ensures i) ∷ []) in
    IfOk-weaker c.object.result _ _ (λ t e. ap data_of e ∙ ap (λ ms. object (members_of ms)) joined) c.object.ensures
