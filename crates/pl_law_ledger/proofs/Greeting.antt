-- A report grants no address, and frees none; and all that the journal says of addresses stays so.
use Rattle.std.proofs.Common.{◌≡◌, ℕ, List, [], ◌∷◌, map, refl}
use Rattle.std.specs.List.{AllByRecursion}
use Rattle.pl_frame.specs.declared.address.Mac.{Mac}
use Rattle.pl_node.specs.declared.acts.Act.TheVariants as act
use Rattle.pl_node.specs.declared.messages.ToManager.{ToManager}
use Rattle.pl_node.specs.SwitchViews.{SwitchView}
use Rattle.pl_switch_rule.specs.Reporting.{hears_hello, report_for}
use Rattle.pl_law_ledger.proofs.Giving.{FreesNone, givings}
use Rattle.pl_law_ledger.proofs.Takes.{Enters, IsListed, Quiets, enters_of_quiets, same_listed, was_so}

-- words grant nothing, and free nothing
words_give_none : (words : List ToManager) → givings (map (λ word. act.Tell word) words) ≡ []
words_give_none [] = refl
words_give_none (word ∷ words) = words_give_none words

words_free_none : (words : List ToManager) → AllByRecursion FreesNone (map (λ word. act.Tell word) words)
words_free_none [] = tt
words_free_none (word ∷ words) = (tt, words_free_none words)

module _ (P : ℕ → Mac → Type 0) (v : SwitchView) (listed : IsListed v) where
  pub hello_enters : (epoch : ℕ) → Enters P v (hears_hello v epoch)
  hello_enters epoch =
      let q : Quiets P v (hears_hello v epoch) = record {
        covers = λ x g is. was_so v x g is;
        there = λ x g is. (g, is);
        frees_none = words_free_none (report_for epoch v);
        none = words_give_none (report_for epoch v);
        listed = same_listed P v (hears_hello v epoch).view refl refl refl refl listed;
        few = λ few. few;
        remembered = refl;
        used = λ x mac is. record { grant = is.grant; found = is.found; used = is.used; to = is.to };
      } in enters_of_quiets P v (hears_hello v epoch) q
