-- What is due keeps addresses in order where it is sifted, and where wishes for pods are put off.
use Rattle.std.proofs.Common.{◌≡◌, ℕ, ◌||◌, not, Bool, true, false, if◌then◌else◌, filter, List, [], ◌∷◌, ◌++◌, Option, Some, refl, sym, ap, subst, ◌∙◌, inl, inr, append-nil}
use Rattle.std.specs.List.{AllByRecursion, list_any}
use Rattle.std.proofs.lemmas.Bool.{false≢true}
use Rattle.pl_lemmas.proofs.Exports.{all_append}
use Rattle.pl_frame.specs.declared.address.Ip4.{Ip4}
use Rattle.pl_frame.specs.declared.address.Mac.{Mac}
use Rattle.pl_pmac.specs.declared.pmac.Pmac.{Pmac}
use Rattle.pl_wiring.specs.Plan.{Plan}
use Rattle.pl_node.specs.declared.messages.ToManager.{ToManager}
use Rattle.pl_node.specs.declared.messages.ToManager.TheVariants as tell
use Rattle.pl_node.specs.declared.messages.ToSwitch.{ToSwitch}
use Rattle.pl_node.specs.declared.switch_records.Grant.{Grant}
use Rattle.pl_node.specs.ManagerViews.{ManagerView}
use Rattle.pl_node.specs.SwitchViews.{SwitchView}
use Rattle.pl_manager_rule.specs.Treating.{waits_for_places}
use Rattle.pl_law_control_plane.proofs.Exports.{any_append}
use Rattle.pl_law_due.specs.Due.{words_of}
use Rattle.pl_law_due.specs.DueSteps.{IsTurned}
use Rattle.pl_law_addresses.specs.EdgeAddresses.{Edge, edge_of, tells_ip}
use Rattle.pl_law_epochs.specs.Addressed.{AreInOrder}
use Rattle.pl_law_epochs.specs.Edges.{IsGoodEdge, IsGoodWord, Registry, is_unheard, registry_of, tenure_at}
use Rattle.pl_law_epochs.specs.Situations.{IsIn}
use Rattle.pl_law_epochs.specs.Tenures.{said_of, words_on}
use Rattle.pl_law_epochs.proofs.Lives.{dropped}
use Rattle.pl_law_epochs.proofs.Staying.{words_behind}

-- ---- other words, the same of each address
pub record IsSaidAlike (own : Mac → Option Ip4) (granted : Pmac → Option Grant) (before after : List ToManager) : Type 0 where
  pub words : (x : Pmac) → words_on x after ≡ words_on x before
  pub good : AllByRecursion (IsGoodWord own granted) after
  pub ips : (x : Pmac) → list_any (tells_ip x) before ≡ true → list_any (tells_ip x) after ≡ true

pub alike_edge : (own : Mac → Option Ip4) (r : Registry) (e : Edge) (after : List ToManager) → IsSaidAlike own e.granted e.up after → IsGoodEdge own r e → IsGoodEdge own r (record e { up = after })
alike_edge own r e after alike good = record {
  placed = good.placed;
  grants = λ x g is. let it = good.grants x g is in record {
    own_ip = it.own_ip;
    told_ip = λ loud used ip has. elim (it.told_ip loud used ip has) [ inl known ↦ inl known | inr waits ↦ inr (alike.ips x waits) ];
    trap_ip = it.trap_ip;
  };
  situations = λ x at. subst (λ d. IsIn r.later (record (tenure_at r e x) { due = d })) (sym (alike.words x)) (good.situations x at);
  words = alike.good;
  orders = good.orders;
  unheard = good.unheard;
  tellers = good.tellers;
  here = good.here;
}

-- ---- `Begin` and `End` are no words
sifted_words : (x : Pmac) (up : List ToManager) → words_on x (words_of up) ≡ words_on x up
sifted_words x [] = refl
sifted_words x (tell.Begin n ∷ up) = sifted_words x up
sifted_words x (tell.End n ∷ up) = sifted_words x up
sifted_words x (tell.Place place ∷ up) = sifted_words x up
sifted_words x (tell.Link u usable ∷ up) = sifted_words x up
sifted_words x (tell.PodWanted ∷ up) = sifted_words x up
sifted_words x (tell.Learned a b c ∷ up) = ap (λ ws. said_of x (tell.Learned a b c) ++ ws) (sifted_words x up)
sifted_words x (tell.Aged a b ∷ up) = ap (λ ws. said_of x (tell.Aged a b) ++ ws) (sifted_words x up)
sifted_words x (tell.Trapped a b c ∷ up) = ap (λ ws. said_of x (tell.Trapped a b c) ++ ws) (sifted_words x up)
sifted_words x (tell.Query a b c ∷ up) = sifted_words x up
sifted_words x (tell.Members group any ∷ up) = sifted_words x up

sifted_ips : (x : Pmac) (up : List ToManager) → list_any (tells_ip x) (words_of up) ≡ list_any (tells_ip x) up
sifted_ips x [] = refl
sifted_ips x (tell.Begin n ∷ up) = sifted_ips x up
sifted_ips x (tell.End n ∷ up) = sifted_ips x up
sifted_ips x (tell.Place place ∷ up) = sifted_ips x up
sifted_ips x (tell.Link u usable ∷ up) = sifted_ips x up
sifted_ips x (tell.PodWanted ∷ up) = sifted_ips x up
sifted_ips x (tell.Learned a b c ∷ up) = ap (λ q. tells_ip x (tell.Learned a b c) || q) (sifted_ips x up)
sifted_ips x (tell.Aged a b ∷ up) = sifted_ips x up
sifted_ips x (tell.Trapped a b c ∷ up) = sifted_ips x up
sifted_ips x (tell.Query a b c ∷ up) = sifted_ips x up
sifted_ips x (tell.Members group any ∷ up) = sifted_ips x up

sifted_all : (P : ToManager → Type 0) (up : List ToManager) → AllByRecursion P up → AllByRecursion P (words_of up)
sifted_all P [] all = tt
sifted_all P (tell.Begin n ∷ up) all = sifted_all P up all.1
sifted_all P (tell.End n ∷ up) all = sifted_all P up all.1
sifted_all P (tell.Place place ∷ up) all = (all.0, sifted_all P up all.1)
sifted_all P (tell.Link u usable ∷ up) all = (all.0, sifted_all P up all.1)
sifted_all P (tell.PodWanted ∷ up) all = (all.0, sifted_all P up all.1)
sifted_all P (tell.Learned a b c ∷ up) all = (all.0, sifted_all P up all.1)
sifted_all P (tell.Aged a b ∷ up) all = (all.0, sifted_all P up all.1)
sifted_all P (tell.Trapped a b c ∷ up) all = (all.0, sifted_all P up all.1)
sifted_all P (tell.Query a b c ∷ up) all = (all.0, sifted_all P up all.1)
sifted_all P (tell.Members group any ∷ up) all = (all.0, sifted_all P up all.1)

-- what a silent switch told is dropped
sifted_edge : (own : Mac → Option Ip4) (r : Registry) (e : Edge) (silent : Bool) → is_unheard e.down ≡ silent → IsGoodEdge own r e →
    IsGoodEdge own r (record e { up = if silent then [] else words_of e.up })
sifted_edge own r e true silent good = record {
  placed = good.placed;
  grants = λ x g is. let it = good.grants x g is in record { own_ip = it.own_ip; told_ip = λ loud. absurd (false≢true (sym loud ∙ silent)); trap_ip = it.trap_ip };
  situations = λ x at. dropped r.later (tenure_at r e x) (good.situations x at) silent [];
  words = tt;
  orders = good.orders;
  unheard = good.unheard;
  tellers = good.tellers;
  here = good.here;
}
sifted_edge own r e false loud good =
    alike_edge own r e (words_of e.up) (record {
      words = λ x. sifted_words x e.up;
      good = sifted_all (IsGoodWord own e.granted) e.up good.words;
      ips = λ x any. sifted_ips x e.up ∙ any;
    }) good

pub sifted_in_order : (own : Mac → Option Ip4) (plan : Plan) (view : ℕ → SwitchView) (due : ℕ → List ToManager) (orders : ℕ → List ToSwitch) (manager : ManagerView) →
    AreInOrder own plan view due orders manager → AreInOrder own plan view (λ t. if is_unheard (orders t) then [] else words_of (due t)) orders manager
sifted_in_order own plan view due orders manager a = record {
  registry = a.registry;
  edges = λ t i at. sifted_edge own (registry_of manager) (edge_of (Some i) (view t) (due t) (orders t)) (is_unheard (orders t)) refl (a.edges t i at);
  tables = a.tables;
  homed = a.homed;
  once = a.once;
  alone = a.alone;
}

-- ---- wishes are put off
wish_quiet : (x : Pmac) (word : ToManager) → waits_for_places word ≡ true → said_of x word ≡ []
wish_quiet x tell.PodWanted is = refl
wish_quiet x (tell.Learned a b c) is = absurd (false≢true is)
wish_quiet x (tell.Aged a b) is = absurd (false≢true is)
wish_quiet x (tell.Trapped a b c) is = absurd (false≢true is)
wish_quiet x word is = refl

wish_no_ip : (x : Pmac) (word : ToManager) → waits_for_places word ≡ true → tells_ip x word ≡ false
wish_no_ip x (tell.Learned a b c) is = absurd (false≢true is)
wish_no_ip x word is = refl

abbrev others : List ToManager → List ToManager
others first = filter (λ word. not (waits_for_places word)) first

abbrev wishes : List ToManager → List ToManager
wishes first = filter waits_for_places first

others_words : (x : Pmac) (first : List ToManager) → words_on x (others first) ≡ words_on x first
others_words x [] = refl
others_words x (w ∷ first) = by (waits_for_places w) refl (others_words x first)
  where
    by : (b : Bool) → waits_for_places w ≡ b → words_on x (others first) ≡ words_on x first →
        words_on x (if not b then w ∷ others first else others first) ≡ said_of x w ++ words_on x first
    by true is rest = rest ∙ sym (ap (λ ws. ws ++ words_on x first) (wish_quiet x w is))
    by false is rest = ap (λ ws. said_of x w ++ ws) rest

wishes_words : (x : Pmac) (first : List ToManager) → words_on x (wishes first) ≡ []
wishes_words x [] = refl
wishes_words x (w ∷ first) = by (waits_for_places w) refl (wishes_words x first)
  where
    by : (b : Bool) → waits_for_places w ≡ b → words_on x (wishes first) ≡ [] → words_on x (if b then w ∷ wishes first else wishes first) ≡ []
    by true is rest = ap (λ ws. ws ++ words_on x (wishes first)) (wish_quiet x w is) ∙ rest
    by false is rest = rest

others_ips : (x : Pmac) (first : List ToManager) → list_any (tells_ip x) (others first) ≡ list_any (tells_ip x) first
others_ips x [] = refl
others_ips x (w ∷ first) = by (waits_for_places w) refl (others_ips x first)
  where
    by : (b : Bool) → waits_for_places w ≡ b → list_any (tells_ip x) (others first) ≡ list_any (tells_ip x) first →
        list_any (tells_ip x) (if not b then w ∷ others first else others first) ≡ (tells_ip x w || list_any (tells_ip x) first)
    by true is rest = rest ∙ sym (ap (λ q. q || list_any (tells_ip x) first) (wish_no_ip x w is))
    by false is rest = ap (λ q. tells_ip x w || q) rest

filtered_all : (P : ToManager → Type 0) (p : ToManager → Bool) (first : List ToManager) → AllByRecursion P first → AllByRecursion P (filter p first)
filtered_all P p [] all = tt
filtered_all P p (w ∷ first) all = by (p w) (filtered_all P p first all.1)
  where
    by : (b : Bool) → AllByRecursion P (filter p first) → AllByRecursion P (if b then w ∷ filter p first else filter p first)
    by true rest = (all.0, rest)
    by false rest = rest

all_parts : (P : ToManager → Type 0) (xs ys : List ToManager) → AllByRecursion P (xs ++ ys) → AllByRecursion P xs × AllByRecursion P ys
all_parts P [] ys all = (tt, all)
all_parts P (x ∷ xs) ys all = let two = all_parts P xs ys all.1 in ((all.0, two.0), two.1)

or_grows : (a b c : Bool) → (a || c) ≡ true → ((a || b) || c) ≡ true
or_grows true b c h = refl
or_grows false true c h = refl
or_grows false false c h = h

pub turned_alike : (own : Mac → Option Ip4) (f : Pmac → Option Grant) (before after : List ToManager) → IsTurned before after → AllByRecursion (IsGoodWord own f) before → IsSaidAlike own f before after
turned_alike own f before after t all =
    let put_off : List ToManager = others t.first ++ wishes t.first in
    let two = all_parts (IsGoodWord own f) t.first t.others (subst (AllByRecursion (IsGoodWord own f)) t.was all) in
    record {
      words = λ x.
          let same : words_on x put_off ≡ words_on x t.first =
          words_behind x (others t.first) (wishes t.first) ∙ (λ i. others_words x t.first i ++ wishes_words x t.first i) ∙ append-nil (words_on x t.first) in
          ap (words_on x) t.now ∙ words_behind x put_off t.others ∙ ap (λ ws. ws ++ words_on x t.others) same
          ∙ sym (ap (words_on x) t.was ∙ words_behind x t.first t.others);
      good = subst (AllByRecursion (IsGoodWord own f)) (sym t.now)
          (all_append (IsGoodWord own f) put_off t.others
          (all_append (IsGoodWord own f) (others t.first) (wishes t.first) (filtered_all (IsGoodWord own f) (λ w. not (waits_for_places w)) t.first two.0)
          (filtered_all (IsGoodWord own f) waits_for_places t.first two.0)) two.1);
      ips = λ x any.
          let p = tells_ip x in
          let there : (list_any p t.first || list_any p t.others) ≡ true = sym (any_append p t.first t.others) ∙ sym (ap (list_any p) t.was) ∙ any in
          ap (list_any p) t.now ∙ any_append p put_off t.others ∙ ap (λ b. b || list_any p t.others) (any_append p (others t.first) (wishes t.first))
          ∙ ap (λ b. (b || list_any p (wishes t.first)) || list_any p t.others) (others_ips x t.first)
          ∙ or_grows (list_any p t.first) (list_any p (wishes t.first)) (list_any p t.others) there;
    }
