-- The texts of what came to the accounts.
use Rattle.std.proofs.Common.{◌≡◌, ◌<◌, ◌≤◌, ◌+◌, ℕ, zero, suc, List, [], ◌∷◌, ◌++◌, None, length, take, drop, sym, ap, ◌∙◌, subst, arith, append_assoc, append-nil, length-append}
use Rattle.std.proofs.lemmas.List.{length-map, map_more, take_all, take_more}
use Rattle.std.proofs.lemmas.List.Elements.{All-nil, All-push}
use Rattle.std.specs.Prelude.{All}
use Rattle.std.proofs.Math.ListN.{get_or}
use Rattle.account_desk.specs.SoleDesk.{account_at, shown_of}
use Rattle.journal_keeper.specs.Journals.{Labelled, labelled}
use Rattle.kept_run.specs.Lines.{Accounts, AreReadBack, MayAllGoOn, NewAreReadBack, counts, texts_behind}
use Rattle.kept_run.specs.Opened.{RunGoesOn}
use Rattle.kept_run.specs.Steps.{AreWithin}
use Rattle.spec_batch.proofs.Chains.{accounts_stay, summary}
use Rattle.spec_batch.specs.Chain.{Chain, Made}
use Rattle.spec_history.specs.Base.{Base, no_base}
use Rattle.spec_history.specs.declared.entry.Entry.{Entry}
use Rattle.spec_site.specs.Configuration.{SiteAccount}

abbrev pub no_account : Base × List Entry
no_account = (no_base, [])

abbrev pub nameless : SiteAccount
nameless = record { id = []; name = [] }

-- ---- counts

abbrev count_of : Base × List Entry → ℕ
count_of a = length a.1

pub counts_more : (accounts : List (Base × List Entry)) (n : ℕ) (before after : List ℕ) (count : ℕ) → n < length accounts → before ≡ counts (take n accounts) → count ≡ length (account_at accounts n).1
    → after ≡ before ++ count ∷ [] → after ≡ counts (take (n + 1) accounts)
counts_more accounts n before after count there so_far is pushed =
    pushed ∙ ((λ i. so_far i ++ is i ∷ []) ∙ sym (map_more count_of accounts n no_account there))

pub all_counted : (accounts : List (Base × List Entry)) (n : ℕ) (found : List ℕ) → length accounts ≤ n → found ≡ counts (take n accounts) → found ≡ counts accounts
all_counted accounts n found over is = is ∙ ap counts (take_all n accounts over)

pub length_counts : (accounts : List (Base × List Entry)) → length (counts accounts) ≡ length accounts
length_counts accounts = length-map accounts count_of

-- ---- texts

-- one account more
more_texts : (n : ℕ) (site : List SiteAccount) (places : List ℕ) (accounts : List (Base × List Entry)) → n < length site → n < length places → n < length accounts
    → texts_behind (take (suc n) site) (take (suc n) places) (take (suc n) accounts)
    ≡ texts_behind (take n site) (take n places) (take n accounts) ++ labelled (get_or site n nameless).id (drop (get_or places n 0) (get_or accounts n no_account).1)
more_texts n [] places accounts a b c = absurd (omega arith)
more_texts n (s ∷ site) [] accounts a b c = absurd (omega arith)
more_texts n (s ∷ site) (p ∷ places) [] a b c = absurd (omega arith)
more_texts zero (s ∷ site) (p ∷ places) (x ∷ accounts) a b c = append-nil (labelled s.id (drop p x.1))
more_texts (suc n) (s ∷ site) (p ∷ places) (x ∷ accounts) a b c =
    ap (λ (l : List Labelled). labelled s.id (drop p x.1) ++ l) (more_texts n site places accounts (omega arith) (omega arith) (omega arith))
    ∙ sym (append_assoc (labelled s.id (drop p x.1)) (texts_behind (take n site) (take n places) (take n accounts)) (labelled (get_or site n nameless).id (drop (get_or places n 0) (get_or accounts n no_account).1)))

pub texts_more : (n : ℕ) (site : List SiteAccount) (places : List ℕ) (accounts : List (Base × List Entry)) → n < length site → n < length places → n < length accounts
    → (texts texts' more : List Labelled) → texts ≡ texts_behind (take n site) (take n places) (take n accounts)
    → more ≡ labelled (get_or site n nameless).id (drop (get_or places n 0) (get_or accounts n no_account).1) → texts' ≡ texts ++ more
    → texts' ≡ texts_behind (take (n + 1) site) (take (n + 1) places) (take (n + 1) accounts)
texts_more n site places accounts a b c texts texts' more so_far is grown =
    let one : suc n ≡ n + 1 = omega arith in
    grown ∙ ((λ i. so_far i ++ is i) ∙ (sym (more_texts n site places accounts a b c) ∙ ap (λ (m : ℕ). texts_behind (take m site) (take m places) (take m accounts)) one))

pub all_texts_there : (n : ℕ) (site : List SiteAccount) (places : List ℕ) (accounts : List (Base × List Entry)) (texts : List Labelled) → length site ≤ n → length places ≡ length site → length accounts ≡ length site
    → texts ≡ texts_behind (take n site) (take n places) (take n accounts) → texts ≡ texts_behind site places accounts
all_texts_there n site places accounts texts over p a is =
    is ∙ (λ i. texts_behind (take_all n site over i) (take_all n places (omega (arith, p, over)) i) (take_all n accounts (omega (arith, a, over)) i))

-- ---- what is read from texts

one_read_back : (n : ℕ) (places : List ℕ) (accounts : List (Base × List Entry)) → n < length places → n < length accounts → NewAreReadBack (take n places) (take n accounts)
    → AreReadBack (drop (get_or places n 0) (get_or accounts n no_account).1) → NewAreReadBack (take (suc n) places) (take (suc n) accounts)
one_read_back n [] accounts a b so_far h = absurd (omega arith)
one_read_back n (p ∷ places) [] a b so_far h = absurd (omega arith)
one_read_back zero (p ∷ places) (x ∷ accounts) a b so_far h = (h, tt)
one_read_back (suc n) (p ∷ places) (x ∷ accounts) a b so_far h = (so_far.0, one_read_back n places accounts (omega arith) (omega arith) so_far.1 h)

pub more_read_back : (n : ℕ) (places : List ℕ) (accounts : List (Base × List Entry)) → n < length places → n < length accounts → NewAreReadBack (take n places) (take n accounts)
    → AreReadBack (drop (get_or places n 0) (get_or accounts n no_account).1) → NewAreReadBack (take (n + 1) places) (take (n + 1) accounts)
more_read_back n places accounts a b so_far h =
    let one : suc n ≡ n + 1 = omega arith in
    subst (λ (m : ℕ). NewAreReadBack (take m places) (take m accounts)) one (one_read_back n places accounts a b so_far h)

pub all_read_back : (n : ℕ) (places : List ℕ) (accounts : List (Base × List Entry)) → length places ≤ n → length accounts ≤ n → NewAreReadBack (take n places) (take n accounts) → NewAreReadBack places accounts
all_read_back n places accounts over beyond h =
    subst (λ (y : List ℕ × List (Base × List Entry)). NewAreReadBack y.0 y.1) (λ i. (take_all n places over i, take_all n accounts beyond i)) h

-- ---- accounts that may go on

abbrev goes_on : Base × List Entry → Type 0
goes_on a = RunGoesOn a.0.zones a.1

pub none_goes_on : (accounts : List (Base × List Entry)) → MayAllGoOn (take 0 accounts)
none_goes_on accounts = All-nil goes_on

pub more_go_on : (n : ℕ) (accounts : List (Base × List Entry)) → n < length accounts → MayAllGoOn (take n accounts) → RunGoesOn (get_or accounts n no_account).0.zones (get_or accounts n no_account).1
    → MayAllGoOn (take (n + 1) accounts)
more_go_on n accounts there so_far h = subst (All goes_on) (sym (take_more accounts n no_account there)) (All-push goes_on (take n accounts) (get_or accounts n no_account) so_far h)

pub all_go_on : (n : ℕ) (accounts : List (Base × List Entry)) → length accounts ≤ n → MayAllGoOn (take n accounts) → MayAllGoOn accounts
all_go_on n accounts over h = subst (All goes_on) (take_all n accounts over) h

-- ---- accounts that grew

pub within_at : (n : ℕ) (places : List ℕ) (accounts : List (Base × List Entry)) → AreWithin places accounts → n < length places → n < length accounts → get_or places n 0 ≤ length (get_or accounts n no_account).1
within_at n [] accounts w a b = absurd (omega arith)
within_at n (p ∷ places) [] w a b = absurd (omega arith)
within_at zero (p ∷ places) (x ∷ accounts) w a b = w.0
within_at (suc n) (p ∷ places) (x ∷ accounts) w a b = within_at n places accounts w.1 (omega arith) (omega arith)

all_within : (before after : List (Base × List Entry)) → ((k : ℕ) → length (account_at before k).1 ≤ length (account_at after k).1) → AreWithin (counts before) after
all_within [] after h = tt
all_within (a ∷ before) [] h = tt
all_within (a ∷ before) (b ∷ after) h = (h 0, all_within before after (λ k. h (suc k)))

-- calls only add entries
pub grown_within : (before after : Accounts) (made : List Made) → Chain (shown_of before) (shown_of after) made → AreWithin (counts before.0) after.0
grown_within before after made chain =
    let all = summary (shown_of before) (shown_of after) made chain in
    all_within before.0 after.0 (λ k.
    let g = (all.each k).grows in
    let e = ap length g.1 ∙ length-append (account_at before.0 k).1 g.0 in
    omega (arith, e))

pub same_count : (before after : Accounts) (made : List Made) → Chain (shown_of before) (shown_of after) made → length after.0 ≡ length before.0
same_count before after made chain = accounts_stay (shown_of before) (shown_of after) made chain
