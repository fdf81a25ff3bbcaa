-- What a run leaves to the run that is begun next.
use Rattle.std.proofs.Common.{◌≡◌, ◌<◌, ◌++◌, ◌∷◌, [], ℕ, zero, suc, List, Bool, true, false, not, Option, Some, None, Result, Ok, Err, option_map, inl, inr, length, map, drop, refl, sym, ap, ◌∙◌, subst, arith, append_assoc, append-nil}
use Rattle.std.proofs.Math.ListN.{get_or}
use Rattle.std.proofs.Math.Seq.{drop-append_seam}
use Rattle.std.proofs.lemmas.List.{length-map, get_or-map}
use Rattle.std.proofs.lemmas.List.Elements.{All-from_get_or, All-head, All-nil, All-push, All-tail}
use Rattle.std.proofs.lemmas.Slice.Eq.{bytes_eq-Decides}
use Rattle.std.specs.Prelude.{◌&&◌, ◌||◌, All, if◌then◌else◌, nat_le}
use Rattle.std.specs.Str.{bytes_eq}
use Rattle.account_desk.specs.FreshDesk.{bases}
use Rattle.account_desk.specs.SoleDesk.{account_at, shown_of}
use Rattle.jmapd_run.specs.declared.status.Status.TheVariants.{Config, Cut, Done, NoMemory, OpenFault, ReadFault, Refused, Usage, WriteFault}
use Rattle.journal_keeper.proofs.AccountTexts.{bytes_same, entries_join, texts_other, texts_own}
use Rattle.journal_keeper.proofs.Loading.{texts-append}
use Rattle.journal_keeper.specs.EntryText.{entry_text}
use Rattle.journal_keeper.specs.Journals.{AreEntriesOf, FailsToKeep, Kept, Labelled, labelled, texts_of}
use Rattle.kept_run.specs.Completes.{RunsGoOn}
use Rattle.kept_run.specs.Lines.{Accounts, AreAnsweredLines, AreReadBack, HasMore, IsAnsweredLine, Line, MayAllGoOn, NewAreReadBack, all_texts, counts, left_by, line_texts, texts_behind}
use Rattle.kept_run.specs.Opened.{AreOpened, HasGoodList}
use Rattle.kept_run.specs.Runs.{KeptEnds, KeptSetting, RunsLines}
use Rattle.kept_run.specs.declared.status.KeptDone.{KeptDone}
use Rattle.jmapd_run.specs.declared.kept_status.KeptStatus.{KeptStatus}
use Rattle.jmapd_run.specs.declared.kept_status.KeptStatus.TheVariants.{BadJournal, Damaged, ForeignJournal, KeepFault, Plain}
use Rattle.kept_run.proofs.TextLemmas.{nameless, no_account, same_count}
use Rattle.spec_batch.proofs.Chains.{summary}
use Rattle.spec_history.specs.Base.{Base}
use Rattle.spec_history.specs.declared.entry.Entry.{Entry}
use Rattle.spec_history.specs.Base.{no_base}
use Rattle.spec_core.specs.Id.{is_id}
use Rattle.spec_json.specs.Data.{Data, list, null, object, text, truth, whole}
use Rattle.spec_json.specs.Json.{Reading, not_json, not_whole, reading, value}
use Rattle.spec_json.specs.Parts.{list_at}
use Rattle.spec_site.specs.Configuration.{Fault, Site, SiteAccount, account_in, account_text, accounts_in, and_then, base_url_in, configured, field_name, generation_in, has_account, is_good_account, passing, read_behind, read_list, site_in, site_read, users_in, web_socket_url_in, zones_in}
use Rattle.spec_site.specs.declared.field.Field.{Field}
use Rattle.spec_site.specs.declared.field.Field.TheVariants.{Accounts as AccountsField, BaseUrl, Generation, Json, Users, WebSocketUrl, Zones}
use Rattle.spec_site.specs.declared.limits.TheConstants.{MAX_ACCOUNTS, MAX_CONFIGURATION_BYTES}
use Rattle.kept_run.specs.Steps.{account_base}
use Rattle.std.proofs.lemmas.Option.{same_Some}

-- ---- accounts are told apart by their ids

abbrev IsOther : SiteAccount → SiteAccount → Type 0
IsOther s t = (bytes_eq s.id t.id ≡ false) × (bytes_eq t.id s.id ≡ false)

-- no other account has the id of one
abbrev AreApart : List SiteAccount → Type 0
AreApart [] = Unit {0}
AreApart (s ∷ ss) = All (IsOther s) ss × AreApart ss

bytes_turned : (a b : List ℕ) → bytes_eq a b ≡ false → bytes_eq b a ≡ false
bytes_turned a b is = by (bytes_eq b a) refl
  where
    by : (c : Bool) → bytes_eq b a ≡ c → c ≡ false
    by false e = refl
    by true e = let wrong : true ≡ false = sym ((bytes_eq-Decides a b).1 (sym ((bytes_eq-Decides b a).0 e))) ∙ is in cc

abbrev value_or : {X E : Type 0} → X → Result X E → X
value_or x (Ok y) = y
value_or x (Err e) = x

same_Ok : {X E : Type 0} {r : Result X E} {x y : X} → r ≡ Ok x → r ≡ Ok y → x ≡ y
same_Ok {x = x} a b = ap (value_or x) (sym a ∙ b)

none_so : (b c : Bool) → (b || c) ≡ false → (b ≡ false) × (c ≡ false)
none_so false c is = (refl, is)
none_so true c is = cc

apart_behind : (ss : List SiteAccount) (x : SiteAccount) → AreApart ss → has_account ss x.id ≡ false → AreApart (ss ++ x ∷ [])
apart_behind [] x apart new = (All-nil (IsOther x), tt)
apart_behind (s ∷ ss) x apart new =
    let both = none_so (bytes_eq s.id x.id) (has_account ss x.id) new in
    (All-push (IsOther s) ss x apart.0 (both.0, bytes_turned s.id x.id both.0), apart_behind ss x apart.1 both.1)

good_account : (earlier : List SiteAccount) (found : Option SiteAccount) (x : SiteAccount) → passing (is_good_account earlier) found ≡ Some x → has_account earlier x.id ≡ false
good_account earlier None x is = cc
good_account earlier (Some a) x is = by (is_id a.id) (has_account earlier a.id) refl is
  where
    by : (b c : Bool) → has_account earlier a.id ≡ c → (if b && not c then Some a else None) ≡ Some x → has_account earlier x.id ≡ false
    by true false e same = ap (λ (y : SiteAccount). has_account earlier y.id) (sym (same_Some a x same)) ∙ e
    by true true e same = cc
    by false c e same = cc

read_apart : (ds : List Data) (earlier r : List SiteAccount) → AreApart earlier → read_behind account_in earlier ds ≡ Ok r → AreApart r
read_apart [] earlier r apart is = subst AreApart (same_Ok refl is) apart
read_apart (d ∷ ds) earlier r apart is =
    by (account_in earlier d) refl (λ x e rest. read_apart ds (earlier ++ x ∷ []) r (apart_behind earlier x apart (good_account earlier (account_text d) x e)) rest)
  where
    by : (o : Option SiteAccount) → account_in earlier d ≡ o → ((x : SiteAccount) → account_in earlier d ≡ Some x → read_behind account_in (earlier ++ x ∷ []) ds ≡ Ok r → AreApart r) → AreApart r
    by None e again = absurd (let wrong : Err (length earlier) ≡ Ok r = rw e at is in cc)
    by (Some x) e again = again x e (rw e at is)

listed_apart : (least most : ℕ) (ds : Option (List Data)) (r : List SiteAccount) → read_list least most account_in ds ≡ Ok r → AreApart r
listed_apart least most None r is = absurd (let wrong : Err 0 ≡ Ok r = is in cc)
listed_apart least most (Some ds) r is = by (nat_le least (length ds) && nat_le (length ds) most) is
  where
    by : (b : Bool) → (if b then read_behind account_in [] ds else Err 0) ≡ Ok r → AreApart r
    by true same = read_apart ds [] r tt same
    by false same = absurd (let wrong : Err 0 ≡ Ok r = same in cc)

went_on : {X Y : Type 0} (name : Field) (r : Result X ℕ) (next : X → Result Y Fault) (y : Y) → and_then name r next ≡ Ok y → (x : X) × (r ≡ Ok x) × (next x ≡ Ok y)
went_on name (Ok x) next y is = (x, refl, is)
went_on name (Err i) next y is = absurd (let wrong : Err (record { field = name; index = i }) ≡ Ok y = is in cc)

site_apart : (d : Data) (site : Site) → site_in d ≡ Ok site → AreApart site.accounts
site_apart d site is =
    let a = went_on BaseUrl (base_url_in d) _ site is in
    let b = went_on AccountsField (accounts_in d) _ site a.2 in
    let c = went_on Users (users_in b.0 d) _ site b.2 in
    let e = went_on Zones (zones_in d) _ site c.2 in
    let f = went_on Generation (generation_in d) _ site e.2 in
    let g = went_on WebSocketUrl (web_socket_url_in d) _ site f.2 in
    let same : b.0 ≡ site.accounts = ap (λ (s : Site). s.accounts) (same_Ok refl g.2) in
    subst AreApart same (listed_apart 1 MAX_ACCOUNTS (list_at (field_name AccountsField) d) b.0 b.1)

read_site : (r : Reading) (site : Site) → site_read r ≡ Ok site → AreApart site.accounts
read_site (value (object members)) site is = site_apart (object members) site is
read_site (value null) site is = cc
read_site (value (truth b)) site is = cc
read_site (value (whole n)) site is = cc
read_site (value (text s)) site is = cc
read_site (value (list ds)) site is = cc
read_site not_json site is = cc
read_site not_whole site is = cc

configured_apart : (bytes : List ℕ) (site : Site) → configured bytes ≡ Ok site → AreApart site.accounts
configured_apart bytes site is = by (nat_le (length bytes) MAX_CONFIGURATION_BYTES) is
  where
    by : (b : Bool) → (if b then site_read (reading bytes) else Err (record { field = Json; index = 0 })) ≡ Ok site → AreApart site.accounts
    by true same = read_site (reading bytes) site same
    by false same = cc

-- ---- the texts of an account among those that came

texts_none : (id : List ℕ) (sites : List SiteAccount) (places : List ℕ) (accounts : List (Base × List Entry)) → All (λ (t : SiteAccount). bytes_eq t.id id ≡ false) sites → texts_of id (texts_behind sites places accounts) ≡ []
texts_none id [] places accounts other = refl
texts_none id (s ∷ sites) [] accounts other = refl
texts_none id (s ∷ sites) (p ∷ places) [] other = refl
texts_none id (s ∷ sites) (p ∷ places) (a ∷ accounts) other =
    texts-append id (labelled s.id (drop p a.1)) (texts_behind sites places accounts)
    ∙ ((λ i. texts_other s.id id (drop p a.1) (All-head (λ (t : SiteAccount). bytes_eq t.id id ≡ false) s sites other) i ++ texts_none id sites places accounts (All-tail (λ (t : SiteAccount). bytes_eq t.id id ≡ false) s sites other) i))

texts_here : (n : ℕ) (id : List ℕ) (sites : List SiteAccount) (places : List ℕ) (accounts : List (Base × List Entry)) → AreApart sites → n < length sites → n < length places → n < length accounts → id ≡ (get_or sites n nameless).id
    → texts_of id (texts_behind sites places accounts) ≡ map entry_text (drop (get_or places n 0) (get_or accounts n no_account).1)
texts_here n id [] places accounts apart a b c is = absurd (omega arith)
texts_here n id (s ∷ sites) [] accounts apart a b c is = absurd (omega arith)
texts_here n id (s ∷ sites) (p ∷ places) [] apart a b c is = absurd (omega arith)
texts_here zero id (s ∷ sites) (p ∷ places) (x ∷ accounts) apart a b c is =
    let own : bytes_eq s.id id ≡ true = ap (bytes_eq s.id) is ∙ bytes_same s.id in
    let others : All (λ (t : SiteAccount). bytes_eq t.id id ≡ false) sites = λ k d below. ap (bytes_eq (get_or sites k d).id) is ∙ (apart.0 k d below).1 in
    texts-append id (labelled s.id (drop p x.1)) (texts_behind sites places accounts)
    ∙ ((λ i. texts_own s.id id (drop p x.1) own i ++ texts_none id sites places accounts others i) ∙ append-nil (map entry_text (drop p x.1)))
texts_here (suc n) id (s ∷ sites) (p ∷ places) (x ∷ accounts) apart a b c is =
    let other : bytes_eq s.id id ≡ false = ap (bytes_eq s.id) is ∙ (apart.0 n nameless (omega arith)).0 in
    texts-append id (labelled s.id (drop p x.1)) (texts_behind sites places accounts)
    ∙ ((λ i. texts_other s.id id (drop p x.1) other i ++ texts_of id (texts_behind sites places accounts)) ∙ texts_here n id sites places accounts apart.1 (omega arith) (omega arith) (omega arith) is)

-- ---- entries and their texts

read_back_at : (n : ℕ) (places : List ℕ) (accounts : List (Base × List Entry)) → n < length places → n < length accounts → NewAreReadBack places accounts → AreReadBack (drop (get_or places n 0) (get_or accounts n no_account).1)
read_back_at n [] accounts a b h = absurd (omega arith)
read_back_at n (p ∷ places) [] a b h = absurd (omega arith)
read_back_at zero (p ∷ places) (x ∷ accounts) a b h = h.0
read_back_at (suc n) (p ∷ places) (x ∷ accounts) a b h = read_back_at n places accounts (omega arith) (omega arith) h.1

module _ (site : Site) (user : ℕ) (apart : AreApart site.accounts) where
  -- these texts are those of the entries of each account
  abbrev AllListed : List Labelled → List (Base × List Entry) → Type 0
  AllListed texts accounts = (n : ℕ) → n < length site.accounts → AreEntriesOf (get_or accounts n no_account).1 (texts_of (get_or site.accounts n nameless).id texts)

  -- a line adds entries behind those of each account
  adds : (before : Accounts) (l : Line) → IsAnsweredLine site user before l → (n : ℕ) → (rest : List Entry) × ((get_or l.accounts.0 n no_account).1 ≡ (get_or before.0 n no_account).1 ++ rest)
  adds before l a n = ((summary (shown_of before) (shown_of l.accounts) l.made a.chain).each n).grows

  listed_more : (texts : List Labelled) (before : Accounts) (l : Line) → length before.0 ≡ length site.accounts → AllListed texts before.0 → IsAnsweredLine site user before l
      → AllListed (texts ++ line_texts site before l) l.accounts.0
  listed_more texts before l all listed a n there =
      let id : List ℕ = (get_or site.accounts n nameless).id in
      let old : List Entry = (get_or before.0 n no_account).1 in
      let one = adds before l a n in
      let counted : length (counts before.0) ≡ length before.0 = length-map before.0 (λ (x : Base × List Entry). length x.1) in
      let after : length l.accounts.0 ≡ length before.0 = same_count before l.accounts l.made a.chain in
      let in_counts : n < length (counts before.0) = omega (arith, there, all, counted) in
      let in_before : n < length before.0 = omega (arith, there, all) in
      let in_after : n < length l.accounts.0 = omega (arith, there, all, after) in
      let place : get_or (counts before.0) n 0 ≡ length old = get_or-map (λ (x : Base × List Entry). length x.1) before.0 n no_account 0 in_before in
      let new : drop (get_or (counts before.0) n 0) (get_or l.accounts.0 n no_account).1 ≡ one.0 = (λ i. drop (place i) (one.1 i)) ∙ drop-append_seam old one.0 in
      let back : AreReadBack one.0 = subst AreReadBack new (read_back_at n (counts before.0) l.accounts.0 in_counts in_after a.read_back) in
      let came : texts_of id (line_texts site before l) ≡ map entry_text one.0 = texts_here n id site.accounts (counts before.0) l.accounts.0 apart there in_counts in_after refl ∙ ap (map entry_text) new in
      subst (λ (y : List Entry × List (List ℕ)). AreEntriesOf y.0 y.1) (λ i. (sym one.1 i, sym (texts-append id texts (line_texts site before l) ∙ ap (λ (ts : List (List ℕ)). texts_of id texts ++ ts) came) i))
      (entries_join old one.0 (texts_of id texts) (map entry_text one.0) (listed n there) back)

  listed_all : (ls : List Line) (texts : List Labelled) (before : Accounts) → length before.0 ≡ length site.accounts → AllListed texts before.0 → AreAnsweredLines site user before ls
      → AllListed (texts ++ all_texts site before ls) (left_by before ls).0
  listed_all [] texts before all listed a = subst (λ (ts : List Labelled). AllListed ts before.0) (sym (append-nil texts)) listed
  listed_all (l ∷ ls) texts before all listed a =
      let one = listed_more texts before l all listed a.0 in
      subst (λ (ts : List Labelled). AllListed ts (left_by l.accounts ls).0) (append_assoc texts (line_texts site before l) (all_texts site l.accounts ls))
      (listed_all ls (texts ++ line_texts site before l) l.accounts (same_count before l.accounts l.made a.0.chain ∙ all) one a.1)

  -- ---- what else of the accounts is as it was

  same_bases : (before after : List (Base × List Entry)) → length after ≡ length before → ((k : ℕ) → (account_at after k).0 ≡ (account_at before k).0)
      → map (λ (a : Base × List Entry). a.0) after ≡ map (λ (a : Base × List Entry). a.0) before
  same_bases [] [] count same = refl
  same_bases (a ∷ before) (b ∷ after) count same = λ i. same 0 i ∷ same_bases before after (omega (arith, count)) (λ k. same (suc k)) i
  same_bases [] (b ∷ after) count same = absurd (omega (arith, count))
  same_bases (a ∷ before) [] count same = absurd (omega (arith, count))

  all_bases : (ls : List Line) (before : Accounts) → AreAnsweredLines site user before ls → map (λ (a : Base × List Entry). a.0) (left_by before ls).0 ≡ map (λ (a : Base × List Entry). a.0) before.0
  all_bases [] before a = refl
  all_bases (l ∷ ls) before a =
      all_bases ls l.accounts a.1
      ∙ same_bases before.0 l.accounts.0 (same_count before l.accounts l.made a.0.chain) (λ k. (summary (shown_of before) (shown_of l.accounts) l.made a.0.chain).base k)

  all_may_go_on : (ls : List Line) (before : Accounts) → MayAllGoOn before.0 → AreAnsweredLines site user before ls → MayAllGoOn (left_by before ls).0
  all_may_go_on [] before may a = may
  all_may_go_on (l ∷ ls) before may a = all_may_go_on ls l.accounts a.0.go_on a.1

-- ---- what the keeper has

-- it has these texts more, whatever is in doubt
abbrev HasTexts : Option Kept → Option Kept → List Labelled → Type 0
HasTexts old new more = option_map (λ (k : Kept). k.texts) new ≡ option_map (λ (k : Kept). k.texts ++ more) old

texts_of_more : (old new : Option Kept) (more : List Labelled) → HasMore old new more → HasTexts old new more
texts_of_more None new more h = ap (option_map (λ (k : Kept). k.texts)) h
texts_of_more (Some k) new more h = ap (option_map (λ (j : Kept). j.texts)) h

texts_unkept : (old between new : Option Kept) (more unkept : List Labelled) → HasMore old between more → FailsToKeep between new unkept → HasTexts old new more
texts_unkept old between new more unkept h (inl same) = ap (option_map (λ (k : Kept). k.texts)) same ∙ texts_of_more old between more h
texts_unkept old None new more unkept h (inr g) = ap (option_map (λ (k : Kept). k.texts)) g.1 ∙ texts_of_more old None more h
texts_unkept old (Some k) new more unkept h (inr g) = ap (option_map (λ (j : Kept). j.texts)) g.1 ∙ texts_of_more old (Some k) more h

module _ {site : Site} {user : ℕ} {before : Accounts} {x x' : KeptSetting} {done : KeptDone} (r : RunsLines site user before x x' done) where
  abbrev lines : List Line
  lines = r.written ++ r.unwritten

  only_written : r.unwritten ≡ [] → all_texts site before r.written ≡ all_texts site before lines
  only_written none = ap (all_texts site before) (sym (ap (λ (ls : List Line). r.written ++ ls) none ∙ append-nil r.written))

  texts_left : (s : KeptStatus) → KeptEnds site user before x x' r.written r.unwritten r.tail r.behind r.more s → HasTexts x.keeper.told x'.keeper.told (all_texts site before lines)
  texts_left (Plain Done) how = texts_of_more _ _ _ how.0.1
  texts_left (Plain Cut) how = texts_of_more _ _ _ how.0.1
  texts_left (Plain ReadFault) how = texts_of_more _ _ _ how.0.1
  texts_left (Plain WriteFault) how = texts_of_more _ _ _ how.0
  texts_left (Plain NoMemory) how = texts_of_more _ _ _ how.1
  texts_left (Plain Usage) how = absurd how
  texts_left (Plain Refused) how = absurd how
  texts_left (Plain OpenFault) how = absurd how
  texts_left (Plain (Config f i)) how = absurd how
  texts_left KeepFault how =
      let u = how.3 in
      subst (HasTexts x.keeper.told x'.keeper.told) (only_written how.0.0) (texts_unkept x.keeper.told u.told x'.keeper.told _ _ u.kept u.fails)
  texts_left (Damaged account place bad) how = absurd how
  texts_left (ForeignJournal account place) how = absurd how
  texts_left (BadJournal account kind number) how = absurd how

-- ---- the accounts of the next run

base_is : (site : Site) (accounts : List (Base × List Entry)) (n : ℕ) → map (λ (a : Base × List Entry). a.0) accounts ≡ bases site → n < length site.accounts → n < length accounts
    → (get_or accounts n no_account).0 ≡ account_base site (get_or site.accounts n nameless).id
base_is site accounts n is there beside =
    sym (get_or-map (λ (a : Base × List Entry). a.0) accounts n no_account no_base beside) ∙ (ap (λ (bs : List Base). get_or bs n no_base) is ∙ get_or-map (λ (a : SiteAccount). account_base site a.id) site.accounts n nameless no_base there)

count_is : (site : Site) (accounts : List (Base × List Entry)) → map (λ (a : Base × List Entry). a.0) accounts ≡ bases site → length accounts ≡ length site.accounts
count_is site accounts is = sym (length-map accounts (λ (a : Base × List Entry). a.0)) ∙ (ap length is ∙ length-map site.accounts (λ (a : SiteAccount). account_base site a.id))

module _ (site : Site) (user : ℕ) (apart : AreApart site.accounts) (ls : List Line) (accounts : List (Base × List Entry)) (answered : AreAnsweredLines site user (accounts, 0) ls) where
  abbrev left : List (Base × List Entry)
  left = (left_by (accounts, 0) ls).0

  same_site : map (λ (a : Base × List Entry). a.0) accounts ≡ bases site → map (λ (a : Base × List Entry). a.0) left ≡ bases site
  same_site is = all_bases site user apart ls (accounts, 0) answered ∙ is

  may_go_on : (told : Option Kept) → AreOpened site told accounts → MayAllGoOn left
  may_go_on told o = all_may_go_on site user apart ls (accounts, 0) (λ k d below. (o.go_on k d below).good) answered

  -- each account has just the entries that are kept of it
  listed_left : (k : Kept) → AreOpened site (Some k) accounts → AllListed site user apart (k.texts ++ all_texts site (accounts, 0) ls) left
  listed_left k o =
      let count = count_is site accounts o.bases in
      listed_all site user apart ls k.texts (accounts, 0) count
      (λ n there.
      let beside : n < length accounts = omega (arith, there, count) in
      subst (λ (b : Base). AreEntriesOf (get_or accounts n no_account).1 (texts_of b.account_id k.texts)) (base_is site accounts n o.bases there beside) (o.go_on n no_account beside).listed)
      answered

  opened_next : (told told' : Option Kept) → HasTexts told told' (all_texts site (accounts, 0) ls) → AreOpened site told accounts → AreOpened site told' left
  opened_next None None has o = record {
    bases = same_site o.bases;
    go_on = λ k d below. record { listed = tt; good = may_go_on None o k d below };
  }
  opened_next (Some k) None has o = absurd (let wrong : None ≡ Some (k.texts ++ all_texts site (accounts, 0) ls) = has in cc)
  opened_next None (Some k) has o = absurd (let wrong : Some k.texts ≡ None = has in cc)
  opened_next (Some k) (Some k') has o =
      let texts : k'.texts ≡ k.texts ++ all_texts site (accounts, 0) ls = same_Some k'.texts (k.texts ++ all_texts site (accounts, 0) ls) has in
      let is = same_site o.bases in
      let count = count_is site left is in
      let listed = listed_left k o in
      record {
        bases = is;
        go_on = All-from_get_or (HasGoodList (Some k')) left no_account (λ n below.
            let there : n < length site.accounts = omega (arith, below, count) in
            record {
              listed = subst (λ (y : Base × List Labelled). AreEntriesOf (get_or left n no_account).1 (texts_of y.0.account_id y.1)) (λ i. (sym (base_is site left n is there below) i, sym texts i)) (listed n there);
              good = may_go_on (Some k) o n no_account below;
            });
      }

pub runs_go_on : RunsGoOn
runs_go_on name o o' site loaded user accounts x x' done opened r =
    opened_next site user (configured_apart loaded.0 site loaded.2) (r.written ++ r.unwritten) accounts r.answered x.keeper.told x'.keeper.told (texts_left r done.status r.how) opened
