use borrow.Author.Rules.{rules}
use Rattle.page.proofs.Joins.{index_given, metas_given, draw_given, page_put}
use Rattle.page.proofs.Words.{given_indexed}
use Rattle.page.proofs.recipe_page.Goals as goal

pub index_metadata-n-requires : goal.index_metadata-n-requires
index_metadata-n-requires c = index_given c.requires

pub meta_lines-b-requires : goal.meta_lines-b-requires
meta_lines-b-requires c = metas_given c.requires c.index_metadata-n.ensures

pub draw_part-c-requires : goal.draw_part-c-requires
draw_part-c-requires c = draw_given c.requires

pub put_tables-d-requires : goal.put_tables-d-requires
put_tables-d-requires c = given_indexed c.requires c.index_metadata-n.ensures

pub put_findings-requires : goal.put_findings-requires
put_findings-requires c = given_indexed c.requires c.index_metadata-n.ensures

pub shape_of-words : goal.shape_of-words
shape_of-words c = search (rules, c.index_metadata-n.ensures.long)

pub shape_of-out : goal.shape_of-out
shape_of-out c = search (rules, c.out-1.given, c.out-2-1.given)

pub returns : goal.returns
returns c =
    page_put c.requires c.index_metadata-n.ensures c.head_line-a.ensures c.meta_lines-b.ensures
    c.draw_part-c.ensures c.put_tables-d.ensures c.put_findings.ensures

pub invariant_of-stored : goal.invariant_of-stored
invariant_of-stored c = record { sound = (given_indexed c.requires c.index_metadata-n.ensures).ran.kept.sound }
