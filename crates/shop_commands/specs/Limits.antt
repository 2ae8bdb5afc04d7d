-- The number of each limit, said once: definitions cite the constants of the code, and these are their numbers.
use Rattle.std.specs.Prelude.{◌≡◌, codes}
use Rattle.cut_measure.specs.declared.ranges.TheConstants.{MAX_WIDTH, MAX_HEIGHT, MAX_KERF, MAX_NUMBERS, MAX_COUNT, MAX_WORTH, MAX_CODE_LEN}
use Rattle.cut_tree.specs.declared.token.TheConstants.{MAX_CUTS}
use Rattle.cut_bars.specs.declared.bar.TheConstants.{MAX_BAR_LENGTH}
use Rattle.cut_sheets.specs.declared.sheet.TheConstants.{MAX_STEPS}
use Rattle.cut_plan.specs.declared.faults.TheConstants.{MAX_WANTS}
use Rattle.cut_order.specs.declared.instance.TheConstants as orders
use Rattle.shop_files.specs.declared.limits.TheConstants.{MAX_TEXT_LEN, MAX_PIECES, MAX_LINES, MAX_ENTRIES}
use Rattle.shop_answers.specs.declared.listing.TheConstants.{MAX_LISTED, MAX_LISTED_BYTES}
use Rattle.shop_records.specs.declared.notes.TheConstants.{MAX_NOTE_LEN}
use Rattle.shop_records.specs.declared.records.TheConstants.{MAX_RECEIVED}
use Rattle.shop_machine.specs.declared.receiving.TheConstants.{MAX_RECEIVED_UNITS}
use Rattle.shop_book.specs.declared.books.TheConstants.{MAX_FAILURES}
use Rattle.shop_request.specs.Heads.{most_head, most_fields, most_body}
use Rattle.shop_wire.specs.declared.limits.TheConstants.{MAX_HELD}
use Rattle.shop_wire.specs.Lines.{longest_line}
use Rattle.shop_wire.specs.Streams.{most_reads}
use Rattle.shop_serve.specs.declared.clients.TheConstants as connections
use Rattle.shop_serve.specs.declared.searching.TheConstants as searching
use Rattle.shop_serve.specs.declared.serving.TheConstants.{MAX_SERVED}
use Rattle.shop_words.specs.declared.words.TheConstants.{MIN_STAGES, MAX_STEP_LENGTH, MAX_CALLS, MAX_STAGES, LAST_PORT, MAX_AFTER, MAX_CONNECTIONS, MAX_KEPT, MAX_NAMES, MAX_PAIR, MAX_SIZES, VERSION}
use Rattle.shop_problems.specs.declared.steps.TheConstants.{MAX_GIVEN_STEP}
use Rattle.shop_commands.specs.declared.files.TheConstants.{MAX_PAGE_LEN}

-- sides of a unit or a piece, a kerf, in tenths of a millimetre, and a code's characters
pub record AreMeasures : Type 0 where
  pub width : MAX_WIDTH ≡ 200000
  pub height : MAX_HEIGHT ≡ 60000
  pub kerf : MAX_KERF ≡ 200
  pub code : MAX_CODE_LEN ≡ 16

-- cuts of a tree, wants of a plan or a bound, a bar for the planner, steps of a sheet's side, what a unit of an order costs, and
-- the limits of a plan's stages
pub record ArePlans : Type 0 where
  pub cuts : MAX_CUTS ≡ 255
  pub wants : MAX_WANTS ≡ 40
  pub bar : MAX_BAR_LENGTH ≡ 150000
  pub steps : MAX_STEPS ≡ 500
  pub cost : orders.MAX_COST ≡ 4000000000000
  pub least_stages : orders.MIN_STAGES ≡ 2
  pub stages : orders.MAX_STAGES ≡ 255

-- bytes of a problem, order or shop text, pieces of a problem, lines of an order, entries of a shop, and bytes of a page
pub record AreFiles : Type 0 where
  pub text : MAX_TEXT_LEN ≡ 65536
  pub pieces : MAX_PIECES ≡ 200
  pub lines : MAX_LINES ≡ 200
  pub entries : MAX_ENTRIES ≡ 1000
  pub page : MAX_PAGE_LEN ≡ 1048576

-- acts and demands, units of a receipt, cells received of a material, count and worth of a line, rows of a list, bytes of a list of
-- entries and of what is said of an order, and counted failures
pub record AreCounts : Type 0 where
  pub numbers : MAX_NUMBERS ≡ 2147483647
  pub units : MAX_RECEIVED_UNITS ≡ 100
  pub received : MAX_RECEIVED ≡ 1000000000000000
  pub count : MAX_COUNT ≡ 1000000
  pub worth : MAX_WORTH ≡ 1000000000
  pub reported : MAX_LISTED ≡ 100
  pub reported_bytes : MAX_LISTED_BYTES ≡ 1000000
  pub note : MAX_NOTE_LEN ≡ 200
  pub failures : MAX_FAILURES ≡ 18446744073709551615

-- reads of a replay, bytes of a line, and bytes of replies that are held; bytes and fields of a head, bytes of a body
pub record AreRequests : Type 0 where
  pub reads : most_reads ≡ 1000000000
  pub line : longest_line ≡ 131072
  pub held : MAX_HELD ≡ 65536
  pub head : most_head ≡ 8192
  pub fields : most_fields ≡ 64
  pub body : most_body ≡ 131072

-- connections that are open, the seconds that each has for its request, and then for its answer, the calls that a query has though
-- others wait, and how many are served where no limit is said
pub record AreConnections : Type 0 where
  pub most : connections.MAX_CLIENTS ≡ 256
  pub patience : connections.PATIENCE ≡ 10
  pub fair : searching.FAIR_CALLS ≡ 200
  pub served : MAX_SERVED ≡ 18446744073709551615

-- of the command line: a step, and the longest that is reported, steps of a search, the limits of a plan's stages, a port, connections,
-- backups that stay, names of a server, the number behind which entries are reported, sizes of a plan, the terminal and the number of a
-- message, and the version
pub record AreWords : Type 0 where
  pub step : MAX_STEP_LENGTH ≡ 200000
  pub reported_step : MAX_GIVEN_STEP ≡ 200000
  pub calls : MAX_CALLS ≡ 5000
  pub least_stages : MIN_STAGES ≡ 2
  pub stages : MAX_STAGES ≡ 255
  pub port : LAST_PORT ≡ 65535
  pub connections : MAX_CONNECTIONS ≡ 1000000
  pub after : MAX_AFTER ≡ 4294967295
  pub kept : MAX_KEPT ≡ 10000
  pub names : MAX_NAMES ≡ 10
  pub sizes : MAX_SIZES ≡ 10
  pub pair : MAX_PAIR ≡ 4294967295
  pub version : VERSION.now ≡ codes "1.1.0"
