-- Entries that a list or a map finds.
use Rattle.std.proofs.Common.{◌≡◌, ℕ, ℤ, pos, ltb, ◌<◌, ◌||◌, ◌+◌, Bool, true, false, not, cond, map, eqb, List, [], ◌∷◌, ◌++◌, Option, Some, None, is_some, option_map, option_and_then, refl, sym, ap, ◌∙◌, inl, inr, arith}
use Rattle.std.specs.HashMap.{HashMap, Updates}
use Rattle.std.specs.HashSet.{HashSet}
use Rattle.std.specs.HashSet as set
use Rattle.std.specs.List.{find, list_any, filter, range_with_len}
use Rattle.std.specs.Option.{option_or}
use Rattle.std.specs.Prelude.{nat_eq, Ok, Err}
use Rattle.std.specs.declared.hash.FoldHasher.{FoldHasher}
use Rattle.std.specs.declared.hash.BuildHasherDefault.{BuildHasherDefault}
use Rattle.std.proofs.lemmas.Bool.{cases_Bool, eqb-true, lt-ltb}
use Rattle.std.proofs.lemmas.Bool.Decides.{nat_tests}
use Rattle.std.proofs.lemmas.List.Folds.{find-append, list_any-append}
use Rattle.toml.specs.Data.{Members}
use Rattle.pl_frame.specs.declared.address.SwitchId.{SwitchId}
use Rattle.pl_topology.specs.declared.entries.SwitchEntry.{SwitchEntry}
use Rattle.pl_topology.specs.declared.entries.LinkEntry.{LinkEntry}
use Rattle.pl_wiring.specs.declared.label.SwitchNo.{SwitchNo}
use Rattle.pl_topology.specs.declared.error.TopologyError.TheVariants as error
use Rattle.pl_topology.specs.declared.key.Key.TheVariants as key
use Rattle.pl_topology.specs.Document.{integer_at}
use Rattle.std.proofs.lemmas.List.{append-nil}
use Rattle.std.proofs.lemmas.List.Elements.{filter-append}
use Rattle.pl_lemmas.proofs.Exports.{option_or_none}
use Rattle.pl_topology.specs.declared.entries.HostEntry.{HostEntry}
use Rattle.pl_topology.specs.declared.entries.PortUse.{PortUse}
use Rattle.pl_topology.specs.Checks.{port_is_free, is_at, is_port, addresses_are_new, has_mac, has_ip, canonical_entry, has_id, id_is_new, is_unnamed}
use Rattle.pl_wiring.specs.Labels.{label_of}
use Rattle.pl_topology.proofs.Steps.{push_next}
use Rattle.pl_topology.specs.Entries.{is_of, id_if, is_again, is_between, switch_at, switch_entry, link_entry}
use Rattle.pl_topology.specs.Found.{FindsIds, FindsLinkEntries, SeesPorts, ends_of, same_pair}
use Rattle.pl_topology.specs.Refusal.{or_refused, refused_if}
use Rattle.pl_topology.proofs.RefusalLemmas.{bind_ok, or_refused_ok, refused_if_ok}

found_here : {A B : Type 0} (f : A → B) (test : Bool) (x : A) (rest : Option A) (more : Bool) → is_some (option_map f rest) ≡ more → is_some (option_map f (cond test (Some x) rest)) ≡ (test || more)
found_here f true x rest more same = refl
found_here f false x rest more same = same

-- something is found where one passes
pub is_some_find : {A B : Type 0} (f : A → B) (p : A → Bool) (xs : List A) → is_some (option_map f (find p xs)) ≡ list_any p xs
is_some_find f p [] = refl
is_some_find f p (x ∷ xs) = found_here f (p x) x (find p xs) (list_any p xs) (is_some_find f p xs)

none_here : {A : Type 0} (test : Bool) (x : A) (rest : Option A) (more : Bool) → (test || more) ≡ false → (more ≡ false → rest ≡ None) → cond test (Some x) rest ≡ None
none_here true x rest more none tail = cc
none_here false x rest more none tail = tail none

pub find_none : {A : Type 0} (p : A → Bool) (xs : List A) → list_any p xs ≡ false → find p xs ≡ None
find_none p [] none = refl
find_none p (x ∷ xs) none = none_here (p x) x (find p xs) (list_any p xs) none (find_none p xs)

-- one more at the end is found where none before it is
pub find_last : {A : Type 0} (p : A → Bool) (xs : List A) (x : A) → list_any p xs ≡ false → p x ≡ true → find p (xs ++ x ∷ []) ≡ Some x
find_last p xs x none passes = find-append p xs (x ∷ []) ∙ rw (find_none p xs none, passes) refl

pub find_skip : {A : Type 0} (p : A → Bool) (xs : List A) (x : A) → p x ≡ false → find p (xs ++ x ∷ []) ≡ find p xs
find_skip p xs x fails = find-append p xs (x ∷ []) ∙ rw fails (option_or_none (find p xs))

-- a switch is named by one table
pub switch_entry-fresh : (k : ℕ) (before : List SwitchEntry) (found : Members) (entry : SwitchEntry) → switch_entry k before found ≡ Ok entry → list_any (is_of entry.switch) before ≡ false
unfolding switch_entry
switch_entry-fresh k before found entry given =
    let (switch, named, rest) = bind_ok (or_refused (switch_at k key.Label found) (error.BadValue key.Label)) _ entry given in
    let (u, fresh, rest2) = bind_ok (refused_if (list_any (is_of switch) before) (error.BadValue key.Label)) _ entry rest in
    let (id, is, made) = bind_ok (or_refused (option_and_then id_if (integer_at key.Id found)) (error.BadValue key.Id)) _ entry rest2 in
    let same : switch ≡ entry.switch = cc in
    rw (← same) (refused_if_ok (list_any (is_of switch) before) (error.BadValue key.Label) u fresh)

abbrev pub Ids : Type 0
Ids = HashMap ℕ SwitchId (BuildHasherDefault FoldHasher)

-- a map that finds the ids of the entries, and then one more
pub FindsIds-push : (old new : Ids) (entries : List SwitchEntry) (entry : SwitchEntry) → FindsIds old entries → list_any (is_of entry.switch) entries ≡ false →
    Updates nat_eq old new entry.switch.0 (Some entry.id) → FindsIds new (entries ++ entry ∷ [])
FindsIds-push old new entries entry finds fresh updates switch = elim (cases_Bool (eqb entry.switch.0 switch.0)) [
  | inl here ↦
      let same : entry.switch.0 ≡ switch.0 = eqb-true entry.switch.0 switch.0 here in
      let none : list_any (is_of switch) entries ≡ false = ap (λ n. list_any (λ s. eqb s.switch.0 n) entries) (sym same) ∙ fresh in
      updates.0 switch.0 ∙ (rw (here, find_last (is_of switch) entries entry none here) refl)
  | inr other ↦ updates.0 switch.0 ∙ (rw (other, find_skip (is_of switch) entries entry other) (finds switch))
]

-- the entry of a link is of the link whose ends are the same
pub same_ends : (e : LinkEntry) (a b : SwitchNo) → same_pair (ends_of e.a e.b) (ends_of a b) ≡ is_between a b e
same_ends e a b = grind (arith, nat_tests)

none_between : (a b x y : SwitchNo) (before : List LinkEntry) → a ≡ x → b ≡ y → list_any (is_between a b) before ≡ false → list_any (is_between x y) before ≡ false
none_between a b x y before first second none = rw (← first, ← second) none

none_again : (a b x y : SwitchNo) (o : Option SwitchNo) (before : List LinkEntry) → is_again a o before ≡ false → o ≡ Some b → a ≡ x → b ≡ y → list_any (is_between x y) before ≡ false
none_again a b x y o before none is first second = none_between a b x y before first second (rw is at none)

pub link_entry-fresh : (k : ℕ) (before : List LinkEntry) (found : Members) (entry : LinkEntry) → link_entry k before found ≡ Ok entry → list_any (is_between entry.a entry.b) before ≡ false
unfolding link_entry
link_entry-fresh k before found entry given =
    let (a, named, rest) = bind_ok (or_refused (switch_at k key.A found) (error.BadValue key.A)) _ entry given in
    let (u, fresh, rest2) = bind_ok (refused_if (is_again a (switch_at k key.B found) before) (error.BadValue key.A)) _ entry rest in
    let (port_a, is_a, rest3) = bind_ok (or_refused (integer_at key.PortA found) (error.BadValue key.PortA)) _ entry rest2 in
    let (b, named_b, rest4) = bind_ok (or_refused (switch_at k key.B found) (error.BadValue key.B)) _ entry rest3 in
    let (port_b, is_b, made) = bind_ok (or_refused (integer_at key.PortB found) (error.BadValue key.PortB)) _ entry rest4 in
    let first : a ≡ entry.a = cc in
    let second : b ≡ entry.b = cc in
    let other = refused_if_ok (is_again a (switch_at k key.B found) before) (error.BadValue key.A) u fresh in
    none_again a b entry.a entry.b (switch_at k key.B found) before other (or_refused_ok (switch_at k key.B found) (error.BadValue key.B) b named_b) first second

abbrev pub ByEnds : Type 0
ByEnds = HashMap (ℕ × ℕ) LinkEntry (BuildHasherDefault FoldHasher)

-- two entries of one link name the same two switches
same_link : (e f : LinkEntry) (a b : SwitchNo) → is_between a b e ≡ true → is_between a b f ≡ is_between e.a e.b f
same_link e f a b same = grind (arith, nat_tests)

pub list_any-same : {A : Type 0} (p q : A → Bool) (xs : List A) → ((x : A) → p x ≡ q x) → list_any p xs ≡ list_any q xs
list_any-same p q [] same = refl
list_any-same p q (x ∷ xs) same = rw (same x, list_any-same p q xs same) refl

-- a map that finds the entries of links, and then one more
pub FindsLinkEntries-push : (old new : ByEnds) (entries : List LinkEntry) (entry : LinkEntry) (ends : ℕ × ℕ) → ends ≡ ends_of entry.a entry.b → FindsLinkEntries old entries → list_any (is_between entry.a entry.b) entries ≡ false →
    Updates same_pair old new ends (Some entry) → FindsLinkEntries new (entries ++ entry ∷ [])
FindsLinkEntries-push old new entries entry ends is finds fresh updates a b = elim (cases_Bool (is_between a b entry)) [
  | inl here ↦
      let none : list_any (is_between a b) entries ≡ false = list_any-same (is_between a b) (is_between entry.a entry.b) entries (λ f. same_link entry f a b here) ∙ fresh in
      updates.0 (ends_of a b) ∙ (rw (is, same_ends entry a b, here, find_last (is_between a b) entries entry none here) refl)
  | inr other ↦ updates.0 (ends_of a b) ∙ (rw (is, same_ends entry a b, other, find_skip (is_between a b) entries entry other) (finds a b))
]

-- something is found where one passes
pub is_some_found : {A : Type 0} (p : A → Bool) (xs : List A) → is_some (find p xs) ≡ list_any p xs
is_some_found p [] = refl
is_some_found p (x ∷ xs) = elim (p x) as (λ t. is_some (cond t (Some x) (find p xs)) ≡ (t || list_any p xs)) [ true ↦ refl | false ↦ is_some_found p xs ]

or_last : (t x : Bool) → cond t true x ≡ (x || (t || false))
or_last true true = refl
or_last true false = refl
or_last false true = refl
or_last false false = refl

-- what a set has of the items, and of one more
pub sees_last : {A : Type 0} (p : A → Bool) (xs : List A) (x : A) (new old : Bool) → new ≡ cond (p x) true old → old ≡ list_any p xs → new ≡ list_any p (xs ++ x ∷ [])
sees_last p xs x new old is was = is ∙ rw was (or_last (p x) (list_any p xs)) ∙ sym (list_any-append p xs (x ∷ []))

-- what an insert found is new was not there, and what it found is not new was
pub not_there : (added there : Bool) → added ≡ not there → added ≡ true → there ≡ false
not_there added true is new = let contrary : false ≡ true = sym is ∙ new in cc
not_there added false is new = refl

pub was_there : (added there : Bool) → added ≡ not there → added ≡ false → there ≡ true
was_there added true is old = refl
was_there added false is old = let contrary : false ≡ true = sym old ∙ is in cc

pub id_is_new-passes : (before : List SwitchEntry) (entry : SwitchEntry) → list_any (has_id entry.id) before ≡ false → id_is_new before entry ≡ Ok tt
unfolding id_is_new
id_is_new-passes before entry new = rw new refl

pub id_is_new-refuses : (before : List SwitchEntry) (entry : SwitchEntry) → list_any (has_id entry.id) before ≡ true → id_is_new before entry ≡ Err (error.DoubleId entry.id)
unfolding id_is_new
id_is_new-refuses before entry old = rw old refl

-- the canonical ids that are kept among so many switches
abbrev pub kept_among : List SwitchEntry → ℕ → List SwitchEntry
kept_among given n = filter (is_unnamed given) (map canonical_entry (range_with_len 0 n))

pub kept_among-next : (given : List SwitchEntry) (n : ℕ) → kept_among given (n + 1) ≡ kept_among given n ++ filter (is_unnamed given) (canonical_entry n ∷ [])
kept_among-next given n = ap (filter (is_unnamed given)) (push_next canonical_entry n) ∙ filter-append (is_unnamed given) (map canonical_entry (range_with_len 0 n)) (canonical_entry n ∷ [])

pub kept_among-kept : (given : List SwitchEntry) (n : ℕ) → list_any (is_of (record { 0 = n })) given ≡ false → kept_among given (n + 1) ≡ kept_among given n ++ canonical_entry n ∷ []
kept_among-kept given n none = kept_among-next given n ∙ rw none refl

pub kept_among-named : (given : List SwitchEntry) (n : ℕ) → list_any (is_of (record { 0 = n })) given ≡ true → kept_among given (n + 1) ≡ kept_among given n
kept_among-named given n some = kept_among-next given n ∙ rw some (append-nil (kept_among given n))

pub addresses_are_new-passes : (before : List HostEntry) (host : HostEntry) → list_any (has_mac host.mac.0) before ≡ false → list_any (has_ip host.ip.0) before ≡ false → addresses_are_new before host ≡ Ok tt
unfolding addresses_are_new
addresses_are_new-passes before host no_mac no_ip = rw (no_mac, no_ip) refl

pub addresses_are_new-refuses : (before : List HostEntry) (host : HostEntry) → (list_any (has_mac host.mac.0) before || list_any (has_ip host.ip.0) before) ≡ true → addresses_are_new before host ≡ Err (error.DoubleAddress host.name)
unfolding addresses_are_new
addresses_are_new-refuses before host old = rw old refl

abbrev pub Used : Type 0
Used = HashSet (ℕ × ℕ) (BuildHasherDefault FoldHasher)

or_false : (b : Bool) → (b || false) ≡ b
or_false true = refl
or_false false = refl

-- a set of ports with one more
pub SeesPorts-push : (old new : Used) (uses : List PortUse) (switch : SwitchNo) (port : ℕ) → SeesPorts old uses → set.Updates same_pair old new (switch.0, port) true →
    SeesPorts new (uses ++ record { switch = switch; port = pos port; counts = true } ∷ [])
SeesPorts-push old new uses switch port sees updates s p =
    let same : is_at s (pos p) (record { switch = switch; port = pos port; counts = true }) ≡ same_pair (switch.0, port) (s, p) = grind (arith, nat_tests) in
    sees_last (is_at s (pos p)) uses (record { switch = switch; port = pos port; counts = true }) _ _ (updates.0 (s, p) ∙ ap (λ t. cond t true (set.contains same_pair old (s, p))) (sym same)) (sees s p)

-- a port that does not count changes nothing
pub SeesPorts-skip : (seen : Used) (uses : List PortUse) (switch : SwitchNo) (port : ℤ) → SeesPorts seen uses → SeesPorts seen (uses ++ record { switch = switch; port = port; counts = false } ∷ [])
SeesPorts-skip seen uses switch port sees s p =
    sees s p ∙ sym (list_any-append (is_at s (pos p)) uses (record { switch = switch; port = port; counts = false } ∷ []) ∙ or_false (list_any (is_at s (pos p)) uses))

pub port_is_free-out_of_range : (k : ℕ) (before : List PortUse) (taken : PortUse) → is_port k taken.port ≡ false → port_is_free k before taken ≡ Err (error.BadPort (label_of k taken.switch.0) taken.port)
unfolding port_is_free
port_is_free-out_of_range k before taken out = rw out refl

pub port_is_free-uncounted : (k : ℕ) (before : List PortUse) (switch : SwitchNo) (port : ℕ) → port < k → port_is_free k before (record { switch = switch; port = pos port; counts = false }) ≡ Ok tt
unfolding port_is_free
port_is_free-uncounted k before switch port below = rw (lt-ltb port k below) refl

pub port_is_free-used : (k : ℕ) (before : List PortUse) (switch : SwitchNo) (port : ℕ) → list_any (is_at switch.0 (pos port)) before ≡ true →
    port_is_free k before (record { switch = switch; port = pos port; counts = true }) ≡ Err (error.BadPort (label_of k switch.0) (pos port))
unfolding port_is_free
port_is_free-used k before switch port there = elim (cases_Bool (ltb port k)) [
  | inl below ↦ rw (below, there) refl
  | inr out ↦ rw out refl
]

pub port_is_free-free : (k : ℕ) (before : List PortUse) (switch : SwitchNo) (port : ℕ) → port < k → list_any (is_at switch.0 (pos port)) before ≡ false →
    port_is_free k before (record { switch = switch; port = pos port; counts = true }) ≡ Ok tt
unfolding port_is_free
port_is_free-free k before switch port below free = rw (lt-ltb port k below, free) refl
