-- The fabric manager of a fat tree with k = 4, computed. Edge switches are 1 to 8, two to a pod, aggregation switches 9 to 16, two to a
-- pod, and core switches 17 to 20; the first aggregation switch of a pod is linked to 17 and 18, the second to 19 and 20.
use Rattle.std.specs.Prelude.{◌≡◌, ℕ, ◌+◌, ◌-◌, ◌*◌, ◌/◌, ◌%◌, nat_lt, Bool, true, false, if◌then◌else◌, List, [], ◌∷◌, ◌++◌, map, reverse, Option, Some, None, refl}
use Rattle.std.specs.BTreeMap.{insert_entry}
use Rattle.std.specs.List.{filter_map, flat_map, range_with_len}
use Rattle.pl_frame.specs.declared.address.Ip4.{Ip4}
use Rattle.pl_frame.specs.declared.address.Mac.{Mac}
use Rattle.pl_frame.specs.declared.address.SwitchId.{SwitchId}
use Rattle.pl_pmac.specs.declared.pmac.Pmac.{Pmac}
use Rattle.pl_node.specs.declared.acts.ManagerAct.{ManagerAct}
use Rattle.pl_node.specs.declared.acts.ManagerAct.TheVariants.{Say, Number}
use Rattle.pl_node.specs.declared.messages.ToManager.{ToManager}
use Rattle.pl_node.specs.declared.messages.ToManager.TheVariants as tell
use Rattle.pl_node.specs.declared.messages.ToSwitch.TheVariants as say
use Rattle.pl_node.specs.declared.messages.TreePart.{TreePart}
use Rattle.pl_layouts.specs.declared.place.Place.{Place}
use Rattle.pl_layouts.specs.Memberships.{flood}
use Rattle.pl_node.specs.declared.pod_given.PodGiven.{PodGiven}
use Rattle.pl_node.specs.ManagerViews.{ManagerView, Members, Told, booted_manager, members_cmp, switches}
use Rattle.pl_node.specs.AvoidLists.{avoid_list}
use Rattle.pl_node.specs.Trees.{core_of, tree_part}
use Rattle.pl_manager_rule.specs.Histories.{Word, known}
use Rattle.pl_manager_rule.specs.ManagerRule.{changed, manager_hears, with_link}

-- a switch by its id
abbrev the_switch : ℕ → SwitchId
the_switch n = record { 0 = n }

-- ---- the whole tree, and one in which a link is cut
abbrev place_in_tree : ℕ → Place
place_in_tree n =
    if nat_lt n 9 then record { level = Some 0; position = Some ((n - 1) % 2); pod = Some ((n - 1) / 2) }
    else if nat_lt n 17 then record { level = Some 1; position = None; pod = Some ((n - 9) / 2) }
    else record { level = Some 2; position = None; pod = None }

-- the switches to which a switch is linked, by rising id
abbrev linked_to : ℕ → List ℕ
linked_to n =
    if nat_lt n 9 then range_with_len (9 + (n - 1) / 2 * 2) 2
    else if nat_lt n 17 then range_with_len (1 + (n - 9) / 2 * 2) 2 ++ range_with_len (17 + (n - 9) % 2 * 2) 2
    else map (λ pod. 9 + (n - 17) / 2 + 2 * pod) (range_with_len 0 4)

-- a switch told that it can use all its links
abbrev links_told : ℕ → List ((SwitchId × SwitchId) × Bool)
links_told n = map (λ m. ((the_switch n, the_switch m), true)) (linked_to n)

-- all switches told their places and their links
abbrev whole_tree : Told
whole_tree = record {
  places = map (λ n. (the_switch n, place_in_tree n)) (range_with_len 1 20);
  links = flat_map links_told (range_with_len 1 20);
}

-- the first aggregation switch of pod 1 tells that its link to the first edge switch of that pod is usable no more
abbrev cut_tree : Told
cut_tree = with_link whole_tree (the_switch 11) (the_switch 3) false

-- a neighbour to avoid for a pod and a position
abbrev avoids_at : ℕ → ℕ → ℕ → SwitchId × ℕ × ℕ
avoids_at n pod position = (the_switch n, pod, position)

-- ---- avoid lists
nobody_avoids_anything_in_the_whole_tree : map (avoid_list whole_tree) (switches whole_tree) ≡ map (λ n. []) (range_with_len 1 20)
unfolding avoid_list
nobody_avoids_anything_in_the_whole_tree = refl

-- after the cut: all edge switches but 3, and the first aggregation switches of the other pods
lists_that_change_at_the_cut : changed whole_tree cut_tree ≡ map the_switch (1 ∷ 2 ∷ 4 ∷ 5 ∷ 6 ∷ 7 ∷ 8 ∷ 9 ∷ 13 ∷ 15 ∷ [])
unfolding avoid_list
lists_that_change_at_the_cut = refl

-- edge switch 3 is placed at pod 1, position 0
an_aggregation_switch_of_another_pod_avoids_both_core_switches : avoid_list cut_tree (the_switch 9) ≡ avoids_at 17 1 0 ∷ avoids_at 18 1 0 ∷ []
unfolding avoid_list
an_aggregation_switch_of_another_pod_avoids_both_core_switches = refl

an_edge_switch_of_another_pod_avoids_the_first_aggregation_switch : avoid_list cut_tree (the_switch 1) ≡ avoids_at 9 1 0 ∷ []
unfolding avoid_list
an_edge_switch_of_another_pod_avoids_the_first_aggregation_switch = refl

the_other_edge_switch_of_the_pod_avoids_it_too : avoid_list cut_tree (the_switch 4) ≡ avoids_at 11 1 0 ∷ []
unfolding avoid_list
the_other_edge_switch_of_the_pod_avoids_it_too = refl

the_switch_that_is_cut_off_avoids_nothing : avoid_list cut_tree (the_switch 3) ≡ []
unfolding avoid_list
the_switch_that_is_cut_off_avoids_nothing = refl

-- ---- trees: a group with members at the second edge switch of pod 0 and the first of pod 1
abbrev two_edges : Bool → Members → Members
two_edges any members = insert_entry members_cmp (insert_entry members_cmp members (the_switch 2, 256) any) (the_switch 3, 256) any

-- parts with a neighbour above, and none or one below
abbrev up_only : ℕ → Option TreePart
up_only n = Some (record { up = Some (the_switch n); down = [] })

abbrev up_and_down : ℕ → ℕ → Option TreePart
up_and_down n m = Some (record { up = Some (the_switch n); down = the_switch m ∷ [] })

-- each of the four core switches reaches both edge switches; 256 modulo 4 is 0
the_first_core_switch_is_chosen : core_of whole_tree (two_edges true []) 256 ≡ Some (the_switch 17)
unfolding core_of
the_first_core_switch_is_chosen = refl

-- switches 1 to 20: edge switches send up to the first aggregation switch of their pod; the other aggregation and core switches have no part
parts_in_the_whole_tree : map (tree_part whole_tree (two_edges true []) 256) (switches whole_tree)
    ≡ up_only 9 ∷ up_only 9 ∷ up_only 11 ∷ up_only 11 ∷ up_only 13 ∷ up_only 13 ∷ up_only 15 ∷ up_only 15
    ∷ up_and_down 17 2 ∷ None ∷ up_and_down 17 3 ∷ None ∷ up_only 17 ∷ None ∷ up_only 17 ∷ None
    ∷ Some (record { up = None; down = the_switch 9 ∷ the_switch 11 ∷ [] }) ∷ None ∷ None ∷ None ∷ []
unfolding tree_part core_of
parts_in_the_whole_tree = refl

-- after the cut only 19 and 20 reach both; 256 modulo 2 is 0
the_core_switch_after_the_cut : core_of cut_tree (two_edges true []) 256 ≡ Some (the_switch 19)
unfolding core_of
the_core_switch_after_the_cut = refl

parts_after_the_cut : map (tree_part cut_tree (two_edges true []) 256) (switches cut_tree)
    ≡ up_only 10 ∷ up_only 10 ∷ up_only 12 ∷ up_only 12 ∷ up_only 14 ∷ up_only 14 ∷ up_only 16 ∷ up_only 16
    ∷ None ∷ up_and_down 19 2 ∷ None ∷ up_and_down 19 3 ∷ None ∷ up_only 19 ∷ None ∷ up_only 19
    ∷ None ∷ None ∷ Some (record { up = None; down = the_switch 10 ∷ the_switch 12 ∷ [] }) ∷ None ∷ []
unfolding tree_part core_of
parts_after_the_cut = refl

-- a group that nobody needs any more
nobody_has_a_part_without_members : map (tree_part whole_tree (two_edges false (two_edges true [])) 256) (switches whole_tree)
    ≡ map (λ n. None) (range_with_len 1 20)
unfolding tree_part core_of
nobody_has_a_part_without_members = refl

-- floods need all edge switches
floods_go_down_to_both_edge_switches_of_a_pod : tree_part whole_tree [] flood (the_switch 9)
    ≡ Some (record { up = Some (the_switch 17); down = the_switch 1 ∷ the_switch 2 ∷ [] })
unfolding tree_part core_of
floods_go_down_to_both_edge_switches_of_a_pod = refl

-- ---- one step: whom it speaks to, and in which order
abbrev receiver : ManagerAct → Option ℕ
receiver (Say s says) = Some s.0
receiver (Number pmac n) = None

abbrev receivers : List ManagerAct → List ℕ
receivers acts = filter_map receiver acts

abbrev view_with : Told → ManagerView
view_with told = record (booted_manager 4) { told = told }

-- first the avoid lists, then the parts of floods, whose core switch is 19 in place of 17
receivers_at_the_cut : receivers (manager_hears (view_with whole_tree) (the_switch 11) (tell.Link (the_switch 3) false)).acts
    ≡ (1 ∷ 2 ∷ 4 ∷ 5 ∷ 6 ∷ 7 ∷ 8 ∷ 9 ∷ 13 ∷ 15 ∷ []) ++ (range_with_len 1 17 ++ 19 ∷ [])
unfolding manager_hears avoid_list tree_part core_of
receivers_at_the_cut = refl

-- ---- pods
abbrev asks : ManagerView → ℕ → ManagerView
asks view n = (manager_hears view (the_switch n) tell.PodWanted).view

-- switches 5, 1 and 3 ask in this order, and 5 asks again
abbrev three_askers : ManagerView
three_askers = asks (asks (asks (asks (booted_manager 4) 5) 1) 3) 5

-- a pod that was given
abbrev given : ℕ → ℕ → PodGiven
given n pod = record { switch = the_switch n; pod = pod }

pods_go_by_the_order_of_asking : three_askers.pods ≡ given 3 2 ∷ given 1 1 ∷ given 5 0 ∷ []
unfolding manager_hears
pods_go_by_the_order_of_asking = refl

the_same_pod_again : (manager_hears three_askers (the_switch 1) tell.PodWanted).acts ≡ Say (the_switch 1) (say.Pod 1) ∷ []
unfolding manager_hears avoid_list tree_part core_of
the_same_pod_again = refl

the_next_pod : (manager_hears three_askers (the_switch 7) tell.PodWanted).acts ≡ Say (the_switch 7) (say.Pod 3) ∷ []
unfolding manager_hears avoid_list tree_part core_of
the_next_pod = refl

-- a number that stands in a place told is given to nobody: switches 9 and 12 know pods 0 and 1 already, by a manager that went
abbrev two_pods_told : ManagerView
two_pods_told = view_with (record { places = (the_switch 9, place_in_tree 9) ∷ (the_switch 12, place_in_tree 12) ∷ []; links = [] })

the_pods_told_are_passed_over : (asks (asks two_pods_told 5) 7).pods ≡ given 7 3 ∷ given 5 2 ∷ []
unfolding manager_hears
the_pods_told_are_passed_over = refl

-- the smallest number that is free, wherever the gap is
the_gap_is_filled : (asks (view_with (record { places = (the_switch 12, place_in_tree 12) ∷ []; links = [] })) 5).pods ≡ given 5 0 ∷ []
unfolding manager_hears
the_gap_is_filled = refl

-- ---- what was told last
-- a switch by its number, and what it told
abbrev told_by : ℕ → ToManager → Word
told_by n says = record { switch = the_switch n; says = says }

-- all switches told their places, and then their links, the last switch first
abbrev words_of_the_tree : List Word
words_of_the_tree =
    flat_map (λ n. map (λ m. told_by n (tell.Link (the_switch m) true)) (linked_to n)) (range_with_len 1 20)
    ++ map (λ n. told_by n (tell.Place (place_in_tree n))) (range_with_len 1 20)

the_tables_of_the_tree : (known 4 words_of_the_tree).told ≡ whole_tree
unfolding manager_hears
the_tables_of_the_tree = refl

-- the order in which the switches tell it is not known afterwards
the_same_tables_in_another_order : (known 4 (reverse words_of_the_tree)).told ≡ whole_tree
unfolding manager_hears
the_same_tables_in_another_order = refl

-- a switch tells its place, and the same again
abbrev place_told_twice : List Word
place_told_twice = told_by 9 (tell.Place (place_in_tree 9)) ∷ told_by 9 (tell.Place (place_in_tree 9)) ∷ []

one_place_is_known : (known 4 place_told_twice).told ≡ record { places = (the_switch 9, place_in_tree 9) ∷ []; links = [] }
unfolding manager_hears
one_place_is_known = refl

the_later_word_on_a_link_stands :
    (known 4 (told_by 9 (tell.Link (the_switch 1) false) ∷ told_by 9 (tell.Link (the_switch 1) true) ∷ [])).told.links
    ≡ ((the_switch 9, the_switch 1), false) ∷ []
unfolding manager_hears
the_later_word_on_a_link_stands = refl

-- a switch that asks again is answered, and nothing else is known then
nothing_more_is_known_of_an_asker : (manager_hears three_askers (the_switch 1) tell.PodWanted).view ≡ three_askers
unfolding manager_hears
nothing_more_is_known_of_an_asker = refl

-- ---- addresses: a host 02:00:00:00:00:0d, 10.0.0.4, that switch 3 granted an address and that moved to switch 2
abbrev the_host : Mac
the_host = record { 0 = 2 ∷ 0 ∷ 0 ∷ 0 ∷ 0 ∷ 0x0d ∷ [] }

abbrev its_ip : Ip4
its_ip = record { 0 = 0x0a000004 }

abbrev its_first : Pmac
its_first = record { pod = 1; position = 0; port = 0; vmid = 1 }

abbrev its_second : Pmac
its_second = record { pod = 0; position = 1; port = 1; vmid = 1 }

abbrev at_its_first_place : ManagerView
at_its_first_place = (manager_hears (booted_manager 4) (the_switch 3) (tell.Learned its_first the_host (Some its_ip))).view

abbrev at_its_second_place : ManagerView
at_its_second_place = (manager_hears at_its_first_place (the_switch 2) (tell.Learned its_second the_host None)).view

the_first_address_has_number_1 : (manager_hears (booted_manager 4) (the_switch 3) (tell.Learned its_first the_host (Some its_ip))).acts
    ≡ Number its_first 1 ∷ []
unfolding manager_hears avoid_list tree_part core_of
the_first_address_has_number_1 = refl

-- the new address came without an IPv4 address
the_older_address_is_made_invalid_with_its_own_ip : (manager_hears at_its_first_place (the_switch 2) (tell.Learned its_second the_host None)).acts
    ≡ Number its_second 2 ∷ Say (the_switch 3) (say.Invalidate its_first its_second 2 (Some its_ip)) ∷ []
unfolding manager_hears avoid_list tree_part core_of
the_older_address_is_made_invalid_with_its_own_ip = refl

-- a report of an address that was learnt before says nothing new
nothing_is_said_of_an_address_again : (manager_hears at_its_second_place (the_switch 3) (tell.Learned its_first the_host None)).acts ≡ []
unfolding manager_hears avoid_list tree_part core_of
nothing_is_said_of_an_address_again = refl

-- and leaves what is known as it is
nothing_more_is_known_of_an_address : (manager_hears at_its_second_place (the_switch 3) (tell.Learned its_first the_host (Some its_ip))).view
    ≡ at_its_second_place
unfolding manager_hears
nothing_more_is_known_of_an_address = refl

-- the host's IPv4 address is told with its second address too
the_ip_of_the_newest_address :
    (manager_hears at_its_second_place (the_switch 2) (tell.Learned its_second the_host (Some its_ip))).view.learnt
    ≡ record {
      addresses = record { switch = the_switch 2; pmac = its_second; amac = the_host; ip = Some its_ip; number = 2; recall = None; aged = false }
          ∷ record {
            switch = the_switch 3;
            pmac = its_first;
            amac = the_host;
            ip = Some its_ip;
            number = 1;
            recall = Some (record { new = its_second; number = 2 });
            aged = false;
          } ∷ [];
      reported = [];
      owners = (its_ip, the_host) ∷ [];
      count = 2;
    }
unfolding manager_hears
the_ip_of_the_newest_address = refl

-- the host that asks, and an IPv4 address that nobody has
abbrev asker : Pmac
asker = record { pod = 0; position = 0; port = 0; vmid = 1 }

abbrev asker_ip : Ip4
asker_ip = record { 0 = 0x0a000001 }

abbrev unknown_ip : Ip4
unknown_ip = record { 0 = 0x0a000009 }

-- the IPv4 address was told with the first address; the newest one of its owner is the answer
a_question_finds_the_newest_address : (manager_hears at_its_second_place (the_switch 1) (tell.Query asker asker_ip its_ip)).acts
    ≡ Say (the_switch 1) (say.Answer asker asker_ip its_ip its_second) ∷ []
unfolding manager_hears avoid_list tree_part core_of
a_question_finds_the_newest_address = refl

a_question_that_finds_nobody_is_to_be_flooded : (manager_hears at_its_second_place (the_switch 1) (tell.Query asker asker_ip unknown_ip)).acts
    ≡ Say (the_switch 1) (say.Flood asker asker_ip unknown_ip) ∷ []
unfolding manager_hears avoid_list tree_part core_of
a_question_that_finds_nobody_is_to_be_flooded = refl
