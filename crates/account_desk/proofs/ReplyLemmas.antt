-- Equal requests on histories with equal changes have equal replies, and leave histories with equal changes.
use Rattle.std.proofs.Common.{◌≡◌, ℕ, ℤ, ◌==◌, List, [], ◌∷◌, ◌++◌, Bool, true, false, Option, Some, None, flat_map, map, refl, sym, ap, ◌∙◌, subst, append-nil, if◌then◌else◌}
use Rattle.std.proofs.lemmas.List.{map-append}
use Rattle.std.proofs.lemmas.Grind.{flat_map-append}
use Rattle.cal_model.specs.Answer.{answer, added}
use Rattle.spec_history.specs.declared.stamp.Stamp.{Stamp}
use Rattle.spec_batch.specs.Asked.{Asked, asked, refused}
use Rattle.spec_batch.specs.Batch.{Fit, FollowsFrom, Step, created_by, error_response, given_ids, made_in, meaning_after, reply_response, response_with, response_with_ids, responses_in}
use Rattle.spec_batch.specs.Meaning.{Meaning, refuses, echoes, calls, meaning_of_method}
use Rattle.spec_calls.specs.Methods.{method_used}
use Rattle.spec_batch.specs.Reply.{Replies}
use Rattle.spec_batch.proofs.Chains.{summary}
use Rattle.spec_batch.specs.Chain.{Made, Chain, Rules, Shown, stamp_of}
use Rattle.spec_books.proofs.ActLemmas.{acts_kept}
use Rattle.spec_json.specs.Data.{Data}
use Rattle.spec_history.specs.History.{changes_of}
use Rattle.spec_json.specs.Parts.{some_of}
use Rattle.spec_calls.specs.declared.call.Reply.{Reply}
use Rattle.spec_history.specs.declared.entry.Entry.{Entry}
use Rattle.spec_batch.specs.declared.request.Invocation.{Invocation}
use Rattle.spec_batch.specs.declared.request.Request.{Request}
use Rattle.spec_json.specs.declared.tree.Tree.TheVariants.{Object}
use Rattle.spec_core.specs.declared.user.User.{User}
use Rattle.account_desk.specs.Determined.{AreAlike, RepliesAreDetermined}
use Rattle.account_desk.proofs.AnswerLemmas.{same_answer, same_added}
use Rattle.account_desk.proofs.PlayLemmas.{Played, after, after-append, longer, next, played, played_first, played_rest, played_to}

-- the histories of every account have the same changes
abbrev pub SameChanges : (ℕ → List Entry) → (ℕ → List Entry) → Type 0
SameChanges now now' = (k : ℕ) → changes_of (now k) ≡ changes_of (now' k)

same_longer : (here : Bool) (h h' more more' : List Entry) → changes_of h ≡ changes_of h' → changes_of more ≡ changes_of more'
    → changes_of (if here then h ++ more else h) ≡ changes_of (if here then h' ++ more' else h')
same_longer true h h' more more' same same_more =
    map-append (λ (e : Entry). e.change) h more ∙ ((λ i. same i ++ same_more i) ∙ sym (map-append (λ (e : Entry). e.change) h' more'))
same_longer false h h' more more' same same_more = same

-- what the step led to: the response, the created ids, and the calls
abbrev created_in_call : Option Made → List (List ℕ × List ℕ)
created_in_call o = flat_map (λ (m : Made). m.reply.created) (some_of o)

module _ (d d' : Shown) (desks : AreAlike d d') where
  module _ (now now' : ℕ → List Entry) (same : SameChanges now now') where
    module _ (m m' : Made) (account : m.account ≡ m'.account) (call : m.call ≡ m'.call) (moment : m.moment ≡ m'.moment) where
      abbrev k : ℕ
      k = m.account

      base : d.base k ≡ d'.base m'.account
      base = desks.base k ∙ ap d'.base account

      -- what is true of a call on such a desk, where all is kept
      acted : Played d now (m ∷ []) → (m.reply ≡ d.rules.answer (d.base k) (now k) m.call m.moment) × (m.came ≡ d.rules.added (d.base k) (now k) m.call (stamp_of d.rules (d.base k) (d.author k) m))
      acted p = acts_kept d.rules.answer d.rules.added d.rules.unkept (d.base k) (now k) m.call (stamp_of d.rules (d.base k) (d.author k) m) m.reply (ap (λ (r : Rules). r.unkept) desks.rules) m.came p.0

      acted' : Played d' now' (m' ∷ []) → (m'.reply ≡ d'.rules.answer (d'.base m'.account) (now' m'.account) m'.call m'.moment)
          × (m'.came ≡ d'.rules.added (d'.base m'.account) (now' m'.account) m'.call (stamp_of d'.rules (d'.base m'.account) (d'.author m'.account) m'))
      acted' p = acts_kept d'.rules.answer d'.rules.added d'.rules.unkept (d'.base m'.account) (now' m'.account) m'.call (stamp_of d'.rules (d'.base m'.account) (d'.author m'.account) m') m'.reply
          (ap (λ (r : Rules). r.unkept) desks.rules') m'.came p.0

      same_reply : Played d now (m ∷ []) → Played d' now' (m' ∷ []) → m.reply ≡ m'.reply
      same_reply p p' =
          let here : d.rules.answer (d.base k) (now k) m.call m.moment ≡ answer (d.base k) (now k) m.call m.moment = λ i. (desks.rules i).answer (d.base k) (now k) m.call m.moment in
          let between : answer (d.base k) (now k) m.call m.moment ≡ answer (d.base k) (now' k) m.call m'.moment = same_answer (d.base k) (now k) (now' k) (same k) m.call m.moment m'.moment moment in
          let there : answer (d.base k) (now' k) m.call m'.moment ≡ d'.rules.answer (d'.base m'.account) (now' m'.account) m'.call m'.moment =
          λ i. (sym desks.rules' i).answer (base i) (now' (account i)) (call i) m'.moment in
          (acted p).0 ∙ (here ∙ (between ∙ (there ∙ sym (acted' p').0)))

      same_came : Played d now (m ∷ []) → Played d' now' (m' ∷ []) → changes_of m.came ≡ changes_of m'.came
      same_came p p' =
          let stamp : Stamp = stamp_of d.rules (d.base k) (d.author k) m in
          let stamp' : Stamp = stamp_of d'.rules (d'.base m'.account) (d'.author m'.account) m' in
          let here : changes_of m.came ≡ changes_of (added (d.base k) (now k) m.call stamp) = ap changes_of (acted p).1 ∙ (λ i. changes_of ((desks.rules i).added (d.base k) (now k) m.call stamp)) in
          let between : changes_of (added (d.base k) (now k) m.call stamp) ≡ changes_of (added (d.base k) (now' k) m.call stamp') =
          same_added (d.base k) (now k) (now' k) (same k) m.call stamp stamp' moment in
          let there : changes_of (added (d.base k) (now' k) m.call stamp') ≡ changes_of m'.came =
          (λ i. changes_of ((sym desks.rules' i).added (base i) (now' (account i)) (call i) stamp')) ∙ sym (ap changes_of (acted' p').1) in
          here ∙ (between ∙ there)

      same_next : Played d now (m ∷ []) → Played d' now' (m' ∷ []) → SameChanges (next now m) (next now' m')
      same_next p p' k =
          subst (λ (a : ℕ). changes_of (longer now m.account m.came k) ≡ changes_of (longer now' a m'.came k)) account
          (same_longer (k == m.account) (now k) (now' k) m.came m'.came (same k) (same_came p p'))

    -- what two steps led to, where they were made from these histories
    record Alike (s s' : Step) : Type 0 where
      pub response : s.response ≡ s'.response
      pub created : created_in_call s.made ≡ created_in_call s'.made
      pub same_after : SameChanges (after now (some_of s.made)) (after now' (some_of s'.made))

    -- what calls that were made, or none, led to
    abbrev AlikeCalls : Option Made → Option Made → Type 0
    AlikeCalls o o' = (created_in_call o ≡ created_in_call o') × SameChanges (after now (some_of o)) (after now' (some_of o'))

    both_led : (o o' x x' : Option Made) → o ≡ x → o' ≡ x' → AlikeCalls x x' → AlikeCalls o o'
    both_led o o' x x' is is' led = subst (λ (q : Option Made). AlikeCalls q o') (sym is) (subst (λ (q : Option Made). AlikeCalls x q) (sym is') led)

    one_call : (o o' : Option Made) (m m' : Made) → o ≡ Some m → o' ≡ Some m' → m.account ≡ m'.account → m.call ≡ m'.call → m.moment ≡ m'.moment
        → Played d now (some_of o) → Played d' now' (some_of o') → (m.reply ≡ m'.reply) × AlikeCalls o o'
    one_call o o' m m' is is' account call moment p p' =
        let q : Played d now (m ∷ []) = subst (λ (x : Option Made). Played d now (some_of x)) is p in
        let q' : Played d' now' (m' ∷ []) = subst (λ (x : Option Made). Played d' now' (some_of x)) is' p' in
        let reply : m.reply ≡ m'.reply = same_reply m m' account call moment q q' in
        (reply, both_led o o' (Some m) (Some m') is is' (ap (λ (r : Reply). r.created ++ []) reply, same_next m m' account call moment q q'))

    module _ (moment : ℤ) (s s' : Step) (invoked : s.invocation ≡ s'.invocation) where
      none_alike : s.made ≡ None → s'.made ≡ None → s.response ≡ s'.response → Alike s s'
      none_alike is is' response =
          let led : AlikeCalls s.made s'.made = both_led s.made s'.made None None is is' (refl, same) in
          record { response = response; created = led.0; same_after = led.1 }

      alike : (μ : Meaning) → FollowsFrom moment μ s → FollowsFrom moment μ s' → Played d now (some_of s.made) → Played d' now' (some_of s'.made) → Alike s s'
      alike (refuses e) f f' p p' = none_alike f.0 f'.0 (f.1 ∙ (ap (λ (c : Invocation). error_response c.call_id e) invoked ∙ sym f'.1))
      alike (echoes arguments) f f' p p' = none_alike f.0 f'.0 (f.1 ∙ (ap (λ (c : Invocation). response_with c.name c.call_id (Object arguments)) invoked ∙ sym f'.1))
      alike (calls account call) f f' p p' =
          let both = one_call s.made s'.made f.0 f'.0 f.1 f'.1 (f.2 ∙ sym f'.2) (f.3 ∙ sym f'.3) (f.4 ∙ sym f'.4) p p' in
          let reply : f.0.reply ≡ f'.0.reply = both.0 in
          let responses : reply_response s.invocation.name s.invocation.call_id f.0.reply.arguments f.0.reply.error
          ≡ reply_response s'.invocation.name s'.invocation.call_id f'.0.reply.arguments f'.0.reply.error =
          λ i. reply_response (invoked i).name (invoked i).call_id (reply i).arguments (reply i).error in
          record { response = f.5 ∙ (responses ∙ sym f'.5); created = both.1.0; same_after = both.1.1 }

responses_more : (before : List Step) (s : Step) → responses_in (before ++ s ∷ []) ≡ responses_in before ++ s.response ∷ []
responses_more before s = map-append (λ (t : Step). t.response) before (s ∷ [])

created_split : (xs ys : List Step) → created_by (xs ++ ys) ≡ created_by xs ++ created_by ys
created_split xs ys =
    ap (flat_map (λ (m : Made). m.reply.created)) (flat_map-append (λ (t : Step). some_of t.made) xs ys)
    ∙ flat_map-append (λ (m : Made). m.reply.created) (made_in xs) (made_in ys)

created_one : (s : Step) → created_by (s ∷ []) ≡ created_in_call s.made
created_one s = ap (flat_map (λ (m : Made). m.reply.created)) (append-nil (some_of s.made))

created_first : (s : Step) (ss : List Step) → created_by (s ∷ ss) ≡ created_in_call s.made ++ created_by ss
created_first s ss = flat_map-append (λ (m : Made). m.reply.created) (some_of s.made) (made_in ss)

module _ (d d' : Shown) (desks : AreAlike d d') (user : User) (request : Request) (moment : ℤ) where
  -- what two lists of steps led to, where they were made from these histories
  record AllAlike (now now' : ℕ → List Entry) (ss ss' : List Step) : Type 0 where
    pub responses : responses_in ss ≡ responses_in ss'
    pub created : created_by ss ≡ created_by ss'
    pub same_after : SameChanges (after now (made_in ss)) (after now' (made_in ss'))

  same_meaning : (before before' : List Step) (c c' : Invocation) → responses_in before ≡ responses_in before' → created_by before ≡ created_by before' → c ≡ c'
      → meaning_after user request moment before c ≡ meaning_after user request moment before' c'
  same_meaning before before' c c' responses created invoked =
      λ i. meaning_of_method user.grants (given_ids request ++ created i) (responses i) (invoked i).arguments (method_used request.using (invoked i).name)

  all_alike : (now now' : ℕ → List Entry) (before before' ss ss' : List Step) → SameChanges now now' → responses_in before ≡ responses_in before' → created_by before ≡ created_by before'
      → map (λ (s : Step). s.invocation) ss ≡ map (λ (s : Step). s.invocation) ss' → Fit user request moment before ss → Fit user request moment before' ss'
      → Played d now (made_in ss) → Played d' now' (made_in ss') → AllAlike now now' ss ss'
  all_alike now now' before before' [] [] same responses created invoked f f' p p' = record { responses = refl; created = refl; same_after = same }
  all_alike now now' before before' [] (s' ∷ ss') same responses created invoked f f' p p' = absurd (cc)
  all_alike now now' before before' (s ∷ ss) [] same responses created invoked f f' p p' = absurd (cc)
  all_alike now now' before before' (s ∷ ss) (s' ∷ ss') same responses created invoked f f' p p' =
      let first : s.invocation ≡ s'.invocation = cc in
      let rest : map (λ (t : Step). t.invocation) ss ≡ map (λ (t : Step). t.invocation) ss' = cc in
      let μ : Meaning = meaning_after user request moment before s.invocation in
      let means = same_meaning before before' s.invocation s'.invocation responses created first in
      let one : Alike d d' desks now now' same s s' =
      alike d d' desks now now' same moment s s' first μ f.0 (subst (λ (ν : Meaning). FollowsFrom moment ν s') (sym means) f'.0)
      (played_first d now (some_of s.made) (made_in ss) p) (played_first d' now' (some_of s'.made) (made_in ss') p') in
      let after_one : ℕ → List Entry = after now (some_of s.made) in
      let after_one' : ℕ → List Entry = after now' (some_of s'.made) in
      let more : AllAlike after_one after_one' ss ss' =
      all_alike after_one after_one' (before ++ s ∷ []) (before' ++ s' ∷ []) ss ss' one.same_after
      (responses_more before s ∙ ((λ i. responses i ++ one.response i ∷ []) ∙ sym (responses_more before' s')))
      (created_split before (s ∷ []) ∙ ((λ i. created i ++ (created_one s ∙ (one.created ∙ sym (created_one s'))) i) ∙ sym (created_split before' (s' ∷ []))))
      rest f.1 f'.1 (played_rest d now (some_of s.made) (made_in ss) p) (played_rest d' now' (some_of s'.made) (made_in ss') p') in
      record {
        responses = λ i. one.response i ∷ more.responses i;
        created = created_first s ss ∙ ((λ i. one.created i ++ more.created i) ∙ sym (created_first s' ss'));
        same_after = λ k. subst (λ (h : ℕ → List Entry). changes_of (h k) ≡ changes_of (after now' (made_in (s' ∷ ss')) k)) (sym (after-append now (some_of s.made) (made_in ss)))
            (subst (λ (h : ℕ → List Entry). changes_of (after after_one (made_in ss) k) ≡ changes_of (h k)) (sym (after-append now' (some_of s'.made) (made_in ss'))) (more.same_after k));
      }

module _ (d d' : Shown) (desks : AreAlike d d') (user : User) (moment : ℤ) (now now' : ℕ → List Entry) (same : SameChanges now now') where
  -- two replies to the same
  pub same_replies : (a : Asked) (ms ms' : List Made) (x y : Data) → Replies user moment a ms x → Replies user moment a ms' y → Played d now ms → Played d' now' ms'
      → (x ≡ y) × SameChanges (after now ms) (after now' ms')
  same_replies (asked r) ms ms' x y f f' p p' =
      let led : AllAlike d d' desks user r moment now now' f.0 f'.0 =
      all_alike d d' desks user r moment now now' [] [] f.0 f'.0 same refl refl (sym f.1 ∙ f'.1) f.2 f'.2 (subst (Played d now) f.3 p) (subst (Played d' now') f'.3 p') in (
        f.4 ∙ ((λ i. response_with_ids r.created_ids (led.created i) (led.responses i)) ∙ sym f'.4),
        λ k. subst (λ (l : List Made). changes_of (after now l k) ≡ changes_of (after now' ms' k)) (sym f.3)
            (subst (λ (l : List Made). changes_of (after now (made_in f.0) k) ≡ changes_of (after now' l k)) (sym f'.3) (led.same_after k)),
      )
  same_replies (refused e) ms ms' x y f f' p p' = (
    f.1 ∙ sym f'.1,
    λ k. subst (λ (l : List Made). changes_of (after now l k) ≡ changes_of (after now' ms' k)) (sym f.0)
        (subst (λ (l : List Made). changes_of (now k) ≡ changes_of (after now' l k)) (sym f'.0) (same k)),
  )

rules_stay : (s t : Shown) (ms : List Made) → Chain s t ms → t.rules ≡ s.rules
rules_stay s t ms chain = (summary s t ms chain).rules

bases_stay : (s t : Shown) (ms : List Made) → Chain s t ms → (k : ℕ) → t.base k ≡ s.base k
bases_stay s t ms chain = (summary s t ms chain).base

pub replies_determined : RepliesAreDetermined
replies_determined s s' user moment a x y desks first second =
    let led = same_replies s s' desks user moment s.seen s'.seen desks.changes a first.made second.made x y first.replied second.replied
    (played s first.desk first.made first.chain first.sole) (played s' second.desk second.made second.chain second.sole) in (
      led.0,
      record {
        rules = rules_stay s first.desk first.made first.chain ∙ desks.rules;
        rules' = rules_stay s' second.desk second.made second.chain ∙ desks.rules';
        base = λ k. bases_stay s first.desk first.made first.chain k ∙ (desks.base k ∙ sym (bases_stay s' second.desk second.made second.chain k));
        changes = λ k. ap changes_of (sym (played_to s first.desk first.made first.chain first.sole k))
            ∙ (led.1 k ∙ ap changes_of (played_to s' second.desk second.made second.chain second.sole k));
      },
    )
