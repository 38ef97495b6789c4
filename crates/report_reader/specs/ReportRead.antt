-- What a report that was read says.
use Rattle.std.specs.Prelude.{◌≡◌, ℕ, List, [], Option, Some, None}
use Rattle.std.specs.Global.{Vec}
use Rattle.bip_defs.specs.ConnectedComponents.{Components}
use Rattle.bip_graph.specs.Texts as texts
use Rattle.sp_ids.specs.declared.ids.Col.{Col}
use Rattle.sp_ids.specs.declared.ids.Row.{Row}
use Rattle.report_reader.specs.ReportGrammar as grammar
use Rattle.report_reader.specs.declared.listed_components.ListedComponents.{ListedComponents}
use Rattle.report_reader.specs.declared.reader.Body.{Body}
use Rattle.report_reader.specs.declared.reader.Report.{Report}

abbrev pub orders_in : Option (Vec Row × Vec Col) → Option (List ℕ × List ℕ)
orders_in None = None
orders_in (Some orders) = Some (orders.0.items, orders.1.items)

-- the components of both parts
abbrev pub listed_in : ListedComponents → Components
listed_in c = record { horizontal = c.horizontal; vertical = c.vertical }

-- the components, where there are any
abbrev pub components_read : Option ListedComponents → Option Components
components_read None = None
components_read (Some c) = Some (listed_in c)

abbrev pub contents : Report → texts.Report
contents r = record {
  sizes = record { rows = r.m; cols = r.n; entries = r.e };
  rank = r.rank;
  components = components_read r.components;
  horizontal_rows = r.parts.hr.items;
  horizontal_cols = r.parts.hc.items;
  blocks = r.blocks;
  vertical_rows = r.parts.vr.items;
  vertical_cols = r.parts.vc.items;
  orders = orders_in r.orders;
  pairs = Some r.pairs.items;
}

-- the square part is given by the blocks alone: its lists are empty
pub record GivesSquareByBlocks (r : Report) : Type 0 where
  pub rows : r.parts.sr.items ≡ []
  pub cols : r.parts.sc.items ≡ []

-- the lists that were read
abbrev pub lists_in : Body → grammar.Body
lists_in b = record {
  horizontal = (b.hr.items, b.hc.items);
  first = b.horizontal;
  blocks = b.blocks;
  vertical = (b.vr.items, b.vc.items);
  second = b.vertical;
}

-- components stand in version 2 alone
abbrev pub HasVersion : Report → Type 0
HasVersion r = r.version ≡ texts.version_of r.components
