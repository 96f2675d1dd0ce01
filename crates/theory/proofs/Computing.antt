-- What answers are computed from, under one name.
use Prim.Native.Nat.{ℕ}
use lib.Count.{count_leading_zeros, count_trailing_zeros}
use Rattle.files.specs.Number.{bytes_of, bytes_of_all}
use Rattle.files.specs.Sets.{
  bit,
  hasb,
  with_path,
  without_path,
  union,
  common,
  difference,
  lowest,
  without_lowest,
  size_below,
  size,
  members_from,
  members,
}
use Rattle.documents.specs.Paths.{climbs_to, belowb, meet, context_of, climb_under, towards, climbs, depth_of}
use Rattle.documents.specs.PartList.{part_numbers, document_numbers}
use Rattle.theory.specs.Least.{first_from, least, passing, some_in}
use Rattle.theory.specs.Reachable.{
  tail,
  tip,
  foot,
  head,
  join_children,
  subtree,
  goes_along,
  goes_against,
  carry,
  by_rule,
  by_rules,
  by_climbs,
  one_step,
  settle,
  alone,
  reachable,
  reachb,
}
use Rattle.theory.specs.Search.{rule_move, least_move, forward, seek, written_walk}
use Rattle.theory.specs.Decide.{
  rule_at,
  asked_in,
  both_from,
  clashb,
  clash_rule,
  clashes,
  clashing,
  clashes_from,
  is_dead,
  dead_path,
  dead_rule,
  dead_paths,
  sides_from,
  pairb,
  pair_rule,
  is_pair,
  pair_side,
  reacher,
  root_sides,
  rootb,
  root_rule,
  is_root_pair,
  root_first,
  root_second,
  is_asked_dead,
  dead_asked,
}
use Rattle.theory.specs.Evidence.{
  walk_numbers,
  first_side,
  second_side,
  impliesb,
  excludesb,
  yesb,
  consistentb,
  direct_numbers,
  dead_numbers_by,
  dead_numbers,
  pair_numbers,
  implication_numbers,
  absence_numbers,
  evidence_numbers,
  inconsistent_numbers,
}
use Rattle.theory.specs.Handed.{
  highest,
  gather,
  each_of,
  only_if,
  climb_all,
  start_both,
  start_no,
  severalb,
  reach_all,
  cover_each,
  fill_word,
  kid_word,
  one_kids,
  chain,
  all_kids,
  kids_at,
  root_goals,
  goals_on,
  rows_from,
  goal_rows,
  layer,
  layers_from,
  path_order,
  child_paths,
  parts_on,
  place_of,
  number_of,
  kids_on,
  entry_on,
  entries_on,
  handed_entries,
  handed_numbers,
}

-- what answers are computed from: to unfold this is to unfold all of it
unfoldable pub computing : ℕ
unfolding count_leading_zeros count_trailing_zeros bytes_of bytes_of_all bit hasb with_path without_path union common difference lowest without_lowest
    size_below size members_from members climbs_to belowb meet context_of climb_under towards climbs depth_of part_numbers
    document_numbers first_from least passing some_in tail tip foot head join_children subtree goes_along goes_against carry by_rule
    by_rules by_climbs one_step settle alone reachable reachb rule_move least_move forward seek written_walk rule_at asked_in both_from
    clashb clash_rule clashes clashing clashes_from is_dead dead_path dead_rule dead_paths sides_from pairb pair_rule is_pair pair_side
    reacher root_sides rootb root_rule is_root_pair root_first root_second is_asked_dead dead_asked walk_numbers first_side second_side
    impliesb excludesb yesb consistentb direct_numbers dead_numbers_by dead_numbers pair_numbers implication_numbers absence_numbers
    evidence_numbers inconsistent_numbers highest gather each_of only_if climb_all start_both start_no severalb reach_all cover_each
    fill_word kid_word one_kids chain all_kids kids_at root_goals goals_on rows_from goal_rows layer layers_from path_order child_paths
    parts_on place_of number_of kids_on entry_on entries_on handed_entries handed_numbers
computing = 0
