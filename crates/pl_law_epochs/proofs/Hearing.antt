-- An edge switch stays in order when the fabric manager treats a word.
use Rattle.std.proofs.Common.{◌≡◌, ◌⊎◌, ◌&&◌, ◌||◌, Bool, true, false, List, ◌∷◌, Option, Some, None, is_some, refl, sym, ap, subst, ◌∙◌, inl, inr}
use Rattle.std.specs.List.{AllByRecursion, list_any}
use Rattle.std.proofs.lemmas.Option.{same_Some}
use Rattle.pl_frame.specs.declared.address.Ip4.{Ip4}
use Rattle.pl_frame.specs.declared.address.Mac.{Mac}
use Rattle.pl_pmac.specs.declared.pmac.Pmac.{Pmac}
use Rattle.pl_layouts.specs.Equality.{same_pmac}
use Rattle.pl_layouts.proofs.Exports.{pmac_is}
use Rattle.pl_node.specs.declared.messages.ToManager.{ToManager}
use Rattle.pl_node.specs.declared.messages.ToManager.TheVariants as tell
use Rattle.pl_node.specs.declared.messages.ToSwitch.{ToSwitch}
use Rattle.pl_node.specs.declared.switch_records.Grant.{Grant}
use Rattle.pl_node.specs.ManagerViews.{Registration, Reported}
use Rattle.pl_law_addresses.specs.EdgeAddresses.{Edge, tells_ip}
use Rattle.pl_law_epochs.specs.Edges.{IsGoodEdge, IsGoodOrder, IsGoodRegistry, IsGoodWord, IsRegisteredHere, Registry, is_unheard, tenure_at}
use Rattle.pl_law_epochs.specs.Situations.{IsIn}
use Rattle.pl_law_epochs.proofs.Registering.{HearsIp}

-- what is due, once a word was taken: what is missing is known
pub record IsTakenFrom (own : Mac → Option Ip4) (n : Registry) (e : Edge) (up : List ToManager) : Type 0 where
  pub words : AllByRecursion (IsGoodWord own e.granted) up
  pub told_ip : (y : Pmac) → list_any (tells_ip y) e.up ≡ true → (list_any (tells_ip y) up ≡ true) ⊎ ((ip : Ip4) × (n.ip_at y ≡ Some ip))

-- an IPv4 address that was known of an address in use is so still
abbrev pub KeepsIps : Registry → Registry → Type 0
KeepsIps r n = (y : Pmac) (ip : Ip4) → r.ip_at y ≡ Some ip → (other : Ip4) × (n.ip_at y ≡ Some other)

module _ (own : Mac → Option Ip4) (r n : Registry) (e : Edge) (good : IsGoodEdge own r e) (up : List ToManager) (down : List ToSwitch) where
  -- what has to be known of it
  pub record IsHeardAt : Type 0 where
    pub registry : IsGoodRegistry own n
    pub later : n.later ≡ r.later
    pub ip_stays : KeepsIps r n
    pub taken : IsTakenFrom own n e up
    pub orders : AllByRecursion (IsGoodOrder own e.granted) down
    pub heard : is_unheard down ≡ is_unheard e.down
    pub tellers : (y : Pmac) (known : Reported) → n.known_at y ≡ Some known → e.at y ≡ true → e.id ≡ Some known.switch
    pub here : (y : Pmac) (reg : Registration) → n.at y ≡ Some reg → e.at y ≡ true → IsRegisteredHere n e.granted y reg
    pub situations : (y : Pmac) → e.at y ≡ true → IsIn n.later (tenure_at n (record e { up = up; down = down }) y)

  module _ (h : IsHeardAt) where
    -- an IPv4 address that is known of an address is the one that its host has
    same_ip : (y : Pmac) (g : Grant) (ip other : Ip4) → e.granted y ≡ Some g → g.ip ≡ Some ip → n.ip_at y ≡ Some other → n.ip_at y ≡ Some ip
    same_ip y g ip other is has knows =
        let it = h.registry.ips y other knows in
        let here = (h.here y it.reg it.found (good.placed y g is)).granted_to in
        let mac : g.amac ≡ it.reg.amac = ap (λ (q : Grant). q.amac) (same_Some g here.grant (sym is ∙ here.found)) ∙ here.to in
        let mine : own g.amac ≡ Some ip = (good.grants y g is).own_ip ip has in
        knows ∙ sym it.own_ip ∙ ap own (sym mac) ∙ mine

    pub heard_good : IsGoodEdge own n (record e { up = up; down = down })
    heard_good = record {
      placed = good.placed;
      grants = λ y g is. let it = good.grants y g is in record {
        own_ip = it.own_ip;
        told_ip = λ loud used ip has. elim (it.told_ip (sym h.heard ∙ loud) used ip has) [
          | inl known ↦ let some = h.ip_stays y ip known in inl (same_ip y g ip some.0 is has some.1)
          | inr waits ↦ elim (h.taken.told_ip y waits) [ inl still ↦ inr still | inr found ↦ inl (same_ip y g ip found.0 is has found.1) ]
        ];
        trap_ip = it.trap_ip;
      };
      situations = h.situations;
      words = h.taken.words;
      orders = h.orders;
      unheard = λ is. h.later ∙ good.unheard (sym h.heard ∙ is);
      tellers = h.tellers;
      here = h.here;
    }

-- nothing was taken here
pub nothing_taken : (own : Mac → Option Ip4) (r n : Registry) (e : Edge) → IsGoodEdge own r e → IsTakenFrom own n e e.up
nothing_taken own r n e good = record { words = good.words; told_ip = λ y h. inl h }

-- a word was taken that tells no IPv4 address
pub quiet_taken : (own : Mac → Option Ip4) (r n : Registry) (e : Edge) → IsGoodEdge own r e → (told : ToManager) (rest : List ToManager) → e.up ≡ told ∷ rest →
    ((y : Pmac) → tells_ip y told ≡ false) → IsTakenFrom own n e rest
quiet_taken own r n e good told rest is quiet =
    let all : AllByRecursion (IsGoodWord own e.granted) (told ∷ rest) = subst (λ (ws : List ToManager). AllByRecursion (IsGoodWord own e.granted) ws) is good.words in
    record {
      words = all.1;
      told_ip = λ y h. inl (ap (λ b. b || list_any (tells_ip y) rest) (sym (quiet y)) ∙ ap (λ (ws : List ToManager). list_any (tells_ip y) ws) (sym is) ∙ h);
    }

module _ (own : Mac → Option Ip4) (r n : Registry) (e : Edge) (good : IsGoodEdge own r e) (x : Pmac) (mac : Mac) (told : Option Ip4) where
  -- an address was told
  pub word_taken : (rest : List ToManager) → e.up ≡ tell.Learned x mac told ∷ rest → HearsIp r n x told → IsTakenFrom own n e rest
  word_taken rest is ips =
      let all : AllByRecursion (IsGoodWord own e.granted) (tell.Learned x mac told ∷ rest) = subst (λ (ws : List ToManager). AllByRecursion (IsGoodWord own e.granted) ws) is good.words in
      record {
        words = all.1;
        told_ip = λ y h. ip_first told refl y (same_pmac x y) refl (ap (λ (ws : List ToManager). list_any (tells_ip y) ws) (sym is) ∙ h);
      }
    where
      ip_first : (o : Option Ip4) → told ≡ o → (y : Pmac) (b : Bool) → same_pmac x y ≡ b → list_any (tells_ip y) (tell.Learned x mac told ∷ rest) ≡ true →
          (list_any (tells_ip y) rest ≡ true) ⊎ ((ip : Ip4) × (n.ip_at y ≡ Some ip))
      ip_first None none y b is h = inl (ap (λ (o : Option Ip4). (is_some o && same_pmac x y) || list_any (tells_ip y) rest) (sym none) ∙ h)
      ip_first (Some ip) some y true same h = inr (ip, ap n.ip_at (sym (pmac_is x y same)) ∙ ips.now ip some)
      ip_first (Some ip) some y false other h =
          inl (ap (λ (o : Option Ip4). (is_some o && false) || list_any (tells_ip y) rest) (sym some) ∙ ap (λ b. (is_some told && b) || list_any (tells_ip y) rest) (sym other) ∙ h)
