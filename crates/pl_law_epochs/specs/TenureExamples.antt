-- The life of an address over a restart, computed: a trap stands for it, the manager begins anew, its switch hears of that and reports it.
use Rattle.std.specs.Prelude.{◌≡◌, ◌<◌, refl, true, false, List, [], ◌∷◌, Some, None, is_some}
use Rattle.std.proofs.Common.{inl}
use Rattle.pl_frame.specs.declared.address.SwitchId.{SwitchId}
use Rattle.pl_pmac.specs.declared.pmac.Pmac.{Pmac}
use Rattle.pl_node.specs.declared.address_use.AddressUse.TheVariants.{InUse, Trapped}
use Rattle.pl_node.specs.declared.messages.ToManager.{ToManager}
use Rattle.pl_node.specs.declared.messages.ToManager.TheVariants as tell
use Rattle.pl_node.specs.declared.messages.ToSwitch.{ToSwitch}
use Rattle.pl_node.specs.declared.messages.ToSwitch.TheVariants as say
use Rattle.pl_node.specs.ManagerViews.{Learnt, Recall, registration}
use Rattle.pl_manager_rule.specs.Reports.{known_at, with_trap}
use Rattle.pl_law_epochs.specs.Situations.{IsIn, reported}
use Rattle.pl_law_epochs.specs.Situations.Situation.{Led, LedTold, Silent, Used}
use Rattle.pl_law_epochs.specs.Tenures.{knowledge, orders_on, treats, use_of, words_on}
use Rattle.pl_law_epochs.specs.Tenures.Knowledge.{Knows, Nothing}
use Rattle.pl_law_epochs.specs.Tenures.Order.{Recalls}
use Rattle.pl_law_epochs.specs.Tenures.Said.{Learns, Traps}
use Rattle.pl_law_epochs.specs.Tenures.Use.{Leads, Serves}

-- an address of a host, and a newer one with number 7
abbrev old : Pmac
old = record { pod = 0; position = 0; port = 0; vmid = 1 }

abbrev new : Pmac
new = record { pod = 0; position = 1; port = 0; vmid = 1 }

abbrev to : Recall
to = record { new = new; number = 7 }

abbrev edge : SwitchId
edge = record { 0 = 3 }

-- what is due of each at two switches, and what is ordered
abbrev up : List ToManager
up = tell.Trapped old new 7 ∷ tell.PodWanted ∷ tell.Learned new (record { 0 = 2 ∷ 0 ∷ 0 ∷ 0 ∷ 0 ∷ 20 ∷ [] }) None ∷ []

abbrev down : List ToSwitch
down = say.Pod 2 ∷ say.Invalidate old new 7 None ∷ []

words_of_the_old_one : words_on old up ≡ Traps to ∷ []
words_of_the_old_one = refl

words_of_the_new_one : words_on new up ≡ Learns ∷ []
words_of_the_new_one = refl

orders_of_the_old_one : orders_on old down ≡ Recalls to ∷ []
orders_of_the_old_one = refl

uses : use_of (Some (InUse 12)) ≡ Serves
uses = refl

leads : use_of (Some (Trapped (record { new = new; number = 7; ip = None }) 5)) ≡ Leads to
leads = refl

-- it is told, and the manager registers it; in a first epoch a trap that is told is nothing to the manager
registers : treats false Nothing Learns ≡ Knows true None false
registers = refl

told_in_vain : treats false Nothing (Traps to) ≡ Nothing
told_in_vain = refl

-- where it is in use, registered, and nothing of it is due, it is in a situation
in_use : IsIn false (record { use_is = Serves; due = []; orders = []; known = Knows true None false; silent = false })
in_use = (Used [] tt true (inl refl), refl)

-- the manager has begun anew, and its switch has not heard of it: the manager knows nothing
not_heard : 0 < 7 → IsIn true (record { use_is = Leads to; due = []; orders = []; known = Nothing; silent = true })
not_heard one = (Silent (Leads to) [] one refl, refl)

-- it reports that the trap stands
reports_it : reported (Leads to) ≡ Traps to ∷ []
reports_it = refl

told : 0 < 7 → IsIn true (record { use_is = Leads to; due = Traps to ∷ []; orders = []; known = Nothing; silent = false })
told one = (LedTold to one refl, refl)

-- and that is what the manager knows of it then, by its report alone
treated : treats true Nothing (Traps to) ≡ Knows false (Some to) false
treated = refl

known : 0 < 7 → IsIn true (record { use_is = Leads to; due = []; orders = []; known = Knows false (Some to) false; silent = false })
known one = (Led to one [] tt false (λ h. refl), refl)

-- as its records say
abbrev nothing_learnt : Learnt
nothing_learnt = record { addresses = []; reported = []; owners = []; count = 4294967296 }

abbrev learnt : Learnt
learnt = with_trap 1 nothing_learnt edge old to

recorded : knowledge (is_some (registration learnt old)) (known_at learnt old) ≡ Knows false (Some to) false
recorded = refl
