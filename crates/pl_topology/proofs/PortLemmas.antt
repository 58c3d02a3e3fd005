-- A port that is taken, beside the ports before it.
use Rattle.std.proofs.Common.{◌≡◌, ℕ, ℤ, pos, ◌<◌, ◌++◌, ◌∷◌, [], List, true, false, ◌+◌, length, get_or, take, append_assoc, Option, Some, None, is_some, Ok, Err, refl, sym, ap, ◌∙◌, subst}
use Rattle.std.specs.List.{filter, find, flat_map, list_any}
use Rattle.std.proofs.lemmas.Grind.{flat_map-append}
use Rattle.std.proofs.lemmas.List.{append-nil, take_more}
use Rattle.std.proofs.lemmas.List.Elements.{filter-append}
use Rattle.pl_topology.specs.declared.entries.LinkEntry.{LinkEntry}
use Rattle.pl_wiring.specs.declared.link.Link.{Link}
use Rattle.pl_topology.specs.Entries.{is_between}
use Rattle.pl_topology.specs.declared.error.TopologyError.{TopologyError}
use Rattle.pl_topology.specs.declared.error.TopologyError.TheVariants.{BadPort}
use Rattle.pl_wiring.specs.declared.label.SwitchNo.{SwitchNo}
use Rattle.std.specs.HashSet.{Updates}
use Rattle.pl_topology.specs.declared.entries.PortUse.{PortUse}
use Rattle.pl_topology.specs.Checks.{canonical_uses, is_at, is_port, is_unspoken, port_is_free}
use Rattle.pl_topology.specs.Found.{SeesPorts, same_pair}
use Rattle.pl_wiring.specs.Labels.{label_of}
use Rattle.pl_topology.specs.Refusal.{ReadingFails}
use Rattle.pl_topology.proofs.FoundLemmas.{Used, is_some_found, SeesPorts-push, SeesPorts-skip, port_is_free-out_of_range, port_is_free-uncounted, port_is_free-used, port_is_free-free}
use Rattle.pl_topology.proofs.RefusalLemmas.{ReadingFails-refused}

-- what stands past the end of a list
abbrev pub no_use : PortUse
no_use = record { switch = record { 0 = 0 }; port = pos 0; counts = false }

abbrev pub no_link : LinkEntry
no_link = record { a = record { 0 = 0 }; port_a = pos 0; b = record { 0 = 0 }; port_b = pos 0 }

abbrev pub counted : SwitchNo → ℤ → PortUse
counted switch port = record { switch = switch; port = port; counts = true }

abbrev pub uncounted : SwitchNo → ℤ → PortUse
uncounted switch port = record { switch = switch; port = port; counts = false }

is_counted : (taken : PortUse) (n : ℕ) → taken.port ≡ pos n → taken.counts ≡ true → taken ≡ counted taken.switch (pos n)
is_counted taken n number counts =
    ap (λ p. record { switch = taken.switch; port = p; counts = taken.counts }) number ∙ ap (λ b. record { switch = taken.switch; port = pos n; counts = b }) counts

is_uncounted : (taken : PortUse) (n : ℕ) → taken.port ≡ pos n → taken.counts ≡ false → taken ≡ uncounted taken.switch (pos n)
is_uncounted taken n number counts =
    ap (λ p. record { switch = taken.switch; port = p; counts = taken.counts }) number ∙ ap (λ b. record { switch = taken.switch; port = pos n; counts = b }) counts

-- a port that the switch does not have
pub taken_out : (k : ℕ) (before : List PortUse) (taken : PortUse) (e : TopologyError) → e ≡ BadPort (label_of k taken.switch.0) taken.port → is_port k taken.port ≡ false →
    ReadingFails e (port_is_free k before taken)
taken_out k before taken e is out = ReadingFails-refused e (port_is_free k before taken) (port_is_free-out_of_range k before taken out ∙ ap (λ x. Err x) (sym is))

-- a port that something before has
pub taken_used : (k : ℕ) (before : List PortUse) (taken : PortUse) (n : ℕ) (e : TopologyError) → taken.port ≡ pos n → taken.counts ≡ true → e ≡ BadPort (label_of k taken.switch.0) taken.port →
    list_any (is_at taken.switch.0 (pos n)) before ≡ true → ReadingFails e (port_is_free k before taken)
taken_used k before taken n e number counts is there =
    ReadingFails-refused e (port_is_free k before taken) (ap (port_is_free k before) (is_counted taken n number counts) ∙ port_is_free-used k before taken.switch n there
    ∙ ap (λ x. Err x) (sym (is ∙ ap (BadPort (label_of k taken.switch.0)) number)))

pub taken_free : (k : ℕ) (before : List PortUse) (taken : PortUse) (n : ℕ) → taken.port ≡ pos n → taken.counts ≡ true → n < k →
    list_any (is_at taken.switch.0 (pos n)) before ≡ false → port_is_free k before taken ≡ Ok tt
taken_free k before taken n number counts below free = ap (port_is_free k before) (is_counted taken n number counts) ∙ port_is_free-free k before taken.switch n below free

pub seen_free : (k : ℕ) (before : List PortUse) (taken : PortUse) (n : ℕ) → taken.port ≡ pos n → taken.counts ≡ false → n < k → port_is_free k before taken ≡ Ok tt
seen_free k before taken n number counts below = ap (port_is_free k before) (is_uncounted taken n number counts) ∙ port_is_free-uncounted k before taken.switch n below

pub taken_push : (old new : Used) (uses : List PortUse) (taken : PortUse) (n : ℕ) → taken.port ≡ pos n → taken.counts ≡ true → SeesPorts old uses → Updates same_pair old new (taken.switch.0, n) true →
    SeesPorts new (uses ++ taken ∷ [])
taken_push old new uses taken n number counts sees updates =
    let whole = is_counted taken n number counts in
    let P : PortUse → Type 0 = λ u. SeesPorts new (uses ++ u ∷ []) in
    subst P (sym whole) (SeesPorts-push old new uses taken.switch n sees updates)

pub seen_push : (seen : Used) (uses : List PortUse) (taken : PortUse) (n : ℕ) → taken.port ≡ pos n → taken.counts ≡ false → SeesPorts seen uses → SeesPorts seen (uses ++ taken ∷ [])
seen_push seen uses taken n number counts sees =
    let whole = is_uncounted taken n number counts in
    let P : PortUse → Type 0 = λ u. SeesPorts seen (uses ++ u ∷ []) in
    subst P (sym whole) (SeesPorts-skip seen uses taken.switch (pos n) sees)

-- both ports of a link
pub SeesPorts-link : (old middle new : Used) (before : List PortUse) (link : Link) → SeesPorts old before → Updates same_pair old middle (link.lower.0, link.lower_port) true →
    Updates same_pair middle new (link.upper.0, link.upper_port) true → SeesPorts new (before ++ canonical_uses link)
SeesPorts-link old middle new before link sees first second =
    let lower = SeesPorts-push old middle before link.lower link.lower_port sees first in
    rw append_assoc at (SeesPorts-push middle new (before ++ counted link.lower (pos link.lower_port) ∷ []) link.upper link.upper_port lower second)

-- what is kept of one link
abbrev pub kept_of : List LinkEntry → Link → List PortUse
kept_of given link = flat_map canonical_uses (filter (is_unspoken given) (link ∷ []))

spoken : (given : List LinkEntry) (link : Link) → list_any (is_between link.lower link.upper) given ≡ true → kept_of given link ≡ []
spoken given link there = rw there refl

unspoken : (given : List LinkEntry) (link : Link) → list_any (is_between link.lower link.upper) given ≡ false → kept_of given link ≡ canonical_uses link
unspoken given link none = rw none refl

pub SeesPorts-spoken : (used : Used) (given : List LinkEntry) (before : List PortUse) (link : Link) (found : Option LinkEntry) (entry : LinkEntry) → found ≡ Some entry → found ≡ find (is_between link.lower link.upper) given →
    SeesPorts used before → SeesPorts used (before ++ kept_of given link)
SeesPorts-spoken used given before link found entry is searched sees =
    let there : list_any (is_between link.lower link.upper) given ≡ true = sym (is_some_found (is_between link.lower link.upper) given) ∙ ap is_some (sym searched ∙ is) in
    rw (spoken given link there, append-nil) sees

pub SeesPorts-unspoken : (old middle new : Used) (given : List LinkEntry) (before : List PortUse) (link : Link) (found : Option LinkEntry) → found ≡ None → found ≡ find (is_between link.lower link.upper) given →
    SeesPorts old before → Updates same_pair old middle (link.lower.0, link.lower_port) true → Updates same_pair middle new (link.upper.0, link.upper_port) true →
    SeesPorts new (before ++ kept_of given link)
SeesPorts-unspoken old middle new given before link found is searched sees first second =
    let none : list_any (is_between link.lower link.upper) given ≡ false = sym (is_some_found (is_between link.lower link.upper) given) ∙ ap is_some (sym searched ∙ is) in
    rw (unspoken given link none) (SeesPorts-link old middle new before link sees first second)

-- the kept ports of one more link
pub kept-more : (given : List LinkEntry) (links : List Link) (i : ℕ) (d link : Link) → i < length links → link ≡ get_or links i d →
    flat_map canonical_uses (filter (is_unspoken given) (take (i + 1) links)) ≡ flat_map canonical_uses (filter (is_unspoken given) (take i links)) ++ kept_of given link
kept-more given links i d link within is =
    let same : get_or links i d ≡ link = sym is in
    rw (take_more links i d within, same, filter-append) (flat_map-append canonical_uses (filter (is_unspoken given) (take i links)) (filter (is_unspoken given) (link ∷ [])))
