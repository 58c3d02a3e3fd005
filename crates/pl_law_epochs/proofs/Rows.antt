-- Parts of a step of a switch that keep its addresses in order, and how they go together.
use Rattle.std.proofs.Common.{◌≡◌, Bool, true, false, if◌then◌else◌, List, [], ◌∷◌, ◌++◌, Option, refl, sym, ap, subst, ◌∙◌, append_assoc}
use Rattle.std.specs.List.{AllByRecursion}
use Rattle.pl_frame.specs.declared.address.Ip4.{Ip4}
use Rattle.pl_frame.specs.declared.address.Mac.{Mac}
use Rattle.pl_frame.specs.declared.address.SwitchId.{SwitchId}
use Rattle.pl_pmac.specs.declared.pmac.Pmac.{Pmac}
use Rattle.pl_node.specs.declared.acts.Act.{Act}
use Rattle.pl_node.specs.declared.acts.Act.TheVariants as act
use Rattle.pl_node.specs.declared.messages.ToManager.{ToManager}
use Rattle.pl_node.specs.declared.messages.ToManager.TheVariants as tell
use Rattle.pl_node.specs.declared.messages.ToSwitch.{ToSwitch}
use Rattle.pl_node.specs.declared.switch_records.Grant.{Grant}
use Rattle.pl_node.specs.SwitchViews.{SwitchView}
use Rattle.pl_steps.specs.Steps.{SwitchStep, rests, ◌▹◌}
use Rattle.pl_switch_rule.specs.Granting.{granted}
use Rattle.pl_law_addresses.specs.EdgeAddresses.{Edge, IsGoodAddressTable, edge_of}
use Rattle.pl_law_addresses.proofs.Exports.{AreSilent, aside_does, IsSilentWord, LeavesAddresses, table_alike, told_append, told_by}
use Rattle.pl_law_epochs.specs.Edges.{IsGoodEdge, IsGoodWord, Registry}
use Rattle.pl_law_epochs.specs.Tenures.{said_of, words_on}
use Rattle.pl_law_epochs.proofs.Changing.{tells_more}
use Rattle.pl_law_epochs.proofs.Moves.{Moves, moves_same, moves_then}

silent_word : (own : Mac → Option Ip4) (f : Pmac → Option Grant) (told : ToManager) → IsSilentWord told → IsGoodWord own f told
silent_word own f (tell.Learned pmac amac ip) is = absurd is
silent_word own f (tell.Aged pmac number) is = absurd is
silent_word own f (tell.Trapped old new number) is = absurd is
silent_word own f told is = tt

silent_words : (own : Mac → Option Ip4) (f : Pmac → Option Grant) (acts : List Act) → AreSilent acts → AllByRecursion (IsGoodWord own f) (told_by acts)
silent_words own f [] are = tt
silent_words own f (act.Tell told ∷ acts) are = (silent_word own f told are.0, silent_words own f acts are.1)
silent_words own f (a ∷ acts) are = silent_words own f acts are.1

told_silent : (x : Pmac) (told : ToManager) → IsSilentWord told → said_of x told ≡ []
told_silent x (tell.Learned pmac amac ip) is = absurd is
told_silent x (tell.Aged pmac number) is = absurd is
told_silent x (tell.Trapped old new number) is = absurd is
told_silent x told is = refl

words_silent : (acts : List Act) → AreSilent acts → (x : Pmac) → words_on x (told_by acts) ≡ []
words_silent [] are x = refl
words_silent (act.Tell told ∷ acts) are x = ap (λ ws. ws ++ words_on x (told_by acts)) (told_silent x told are.0) ∙ words_silent acts are.1 x
words_silent (a ∷ acts) are x = words_silent acts are.1 x

-- ---- an edge switch in order, while so much is due of it and waits for it
module _ (own : Mac → Option Ip4) (r : Registry) (id : Option SwitchId) (down : List ToSwitch) where
  pub record Good (v : SwitchView) (up : List ToManager) : Type 0 where
    pub edge : IsGoodEdge own r (edge_of id v up down)
    pub address_table : IsGoodAddressTable own v

  -- a part of a step keeps it in order, its place and how many ports it has
  pub record Keeps (v : SwitchView) (s : SwitchStep) : Type 0 where
    pub good : (up : List ToManager) → Good v up → Good s.view (up ++ told_by s.acts)
    pub place : s.view.place ≡ v.place
    pub k : s.view.k ≡ v.k
    pub moves : (up : List ToManager) → Good v up → Moves (λ x. granted v x) (λ x. granted s.view x)

  good_up : (v : SwitchView) (a b : List ToManager) → a ≡ b → Good v a → Good v b
  good_up v a b is good = subst (λ (t : List ToManager). Good v t) is good

  pub keeps_then : (v : SwitchView) (s : SwitchStep) (next : SwitchView → SwitchStep) → Keeps v s → Keeps s.view (next s.view) → Keeps v (s ▹ next)
  keeps_then v s next a b = record {
    good = λ up good. good_up (next s.view).view ((up ++ told_by s.acts) ++ told_by (next s.view).acts) (up ++ told_by (s.acts ++ (next s.view).acts))
        (append_assoc up (told_by s.acts) (told_by (next s.view).acts) ∙ ap (λ ts. up ++ ts) (sym (told_append s.acts (next s.view).acts)))
        (b.good (up ++ told_by s.acts) (a.good up good));
    place = b.place ∙ a.place;
    k = b.k ∙ a.k;
    moves = λ up good. moves_then (λ x. granted v x) (λ x. granted s.view x) (λ x. granted (next s.view).view x) (a.moves up good) (b.moves (up ++ told_by s.acts) (a.good up good));
  }

  pub keeps_either : (v : SwitchView) (test : Bool) (s t : SwitchStep) → (test ≡ true → Keeps v s) → (test ≡ false → Keeps v t) →
      Keeps v (if test then s else t)
  keeps_either v true s t a b = a refl
  keeps_either v false s t a b = b refl

  same_edge : (v w : SwitchView) (up : List ToManager) → w.place ≡ v.place → w.grants ≡ v.grants → edge_of id v up down ≡ edge_of id w up down
  same_edge v w up place grants = λ i. edge_of id (record v { place = sym place i; grants = sym grants i }) up down

  pub same_good : (v w : SwitchView) (up : List ToManager) → w.place ≡ v.place → w.k ≡ v.k → w.grants ≡ v.grants → w.freed ≡ v.freed → w.remembered ≡ v.remembered → Good v up →
      Good w up
  same_good v w up place k grants freed remembered good = record {
    edge = subst (λ (e : Edge). IsGoodEdge own r e) (same_edge v w up place grants) good.edge;
    address_table = table_alike own v w place k grants freed remembered good.address_table;
  }

  pub aside_keeps : (v : SwitchView) (s : SwitchStep) → LeavesAddresses v s → Keeps v s
  aside_keeps v s a = record {
    good = λ up good. let same = same_good v s.view up a.place a.k a.grants a.freed a.remembered good in record {
      edge = tells_more own r (edge_of id s.view up down) (told_by s.acts) (silent_words own (edge_of id s.view up down).granted s.acts a.silent) (words_silent s.acts a.silent) same.edge;
      address_table = same.address_table;
    };
    place = a.place;
    k = a.k;
    moves = λ up good. moves_same v s.view a.place a.grants;
  }

  pub rests_keeps : (v : SwitchView) → Keeps v (rests v)
  rests_keeps v = aside_keeps v (rests v) (aside_does v [] tt)
