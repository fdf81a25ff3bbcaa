-- A keeper over a file may go to another thread. A struct within another is told of by its row as a field, so that each search goes down one struct alone.
use denote.RattleType.{RattleType}
use denote.Param.Send.{IsSend, sendable}
use Rattle.std.proofs.Crossing.{crosses, frees}
use Rattle.std.proofs.MapsCrossing.{BTreeMap-send}
use Rattle.spec_json.specs.contracts.text.Text as text
use Rattle.sql_keeper.specs.contracts.file_keeper.FileKeeper as file_keeper
use Rattle.sql_keeper.specs.contracts.insert.Writing as writing
use Rattle.sql_keeper.specs.contracts.rows.AccountRows as account_rows
use Rattle.sql_keeper.specs.contracts.rows.KeptRow as kept_row
use Rattle.sql_keeper.specs.contracts.rows.KindRows as kind_rows
use Rattle.sql_keeper.specs.contracts.sql_keeper.SqlKeeper as sql_keeper
use Rattle.sqlite.below.sqlite_disk.specs.declared.Disk
use Rattle.sqlite.below.sqlite_disk.specs.contracts.modelled.Modelled
use Rattle.sqlite.below.sqlite_disk.specs.contracts.modelled.ModelledDisk.TheImpl as disk
use Rattle.sqlite.below.sqlite_disk.specs.contracts.start.UnknownStart.TheImpl as unknown
use Rattle.sqlite.below.sqlite_store.specs.contracts.store.FileStoreStore.TheImpl as stored
use Rattle.sqlite.below.sqlite_disk.proofs.modelled.Modelled.TheSendSync as file_crosses
use Rattle.sqlite.specs.contracts.FileStore
use Rattle.sqlite.specs.contracts.Unknown
use Rattle.sqlite.specs.contracts.connection.Connection
use Rattle.sqlite.specs.contracts.statement.Statement
use Rattle.sqlite.proofs.FileStore.TheSendSync as store_crosses
use Rattle.sqlite.proofs.connection.Connection.TheSendSync as connection_crosses
use Rattle.sqlite_std_file.specs.contracts.host.Host
use Rattle.sqlite_std_file.specs.contracts.host.HostCalls.TheImpl as calls

-- a file, a store over it and a connection over that, as `sqlite` names them
abbrev file_row : RattleType
file_row = Modelled.the_row Host.the_row Unknown.the_row calls.ghosts unknown.ghosts

abbrev of_disk : Disk.Ghosts file_row.Denot
of_disk = disk.ghosts Host.the_row Unknown.the_row calls.ghosts disk.no_dict unknown.ghosts disk.no_dict disk.no_dict

abbrev store_row : RattleType
store_row = FileStore.the_row file_row of_disk

abbrev connection_row : RattleType
connection_row = Connection.the_row store_row (stored.ghosts file_row of_disk stored.no_dict)

abbrev sql_keeper_row : RattleType
sql_keeper_row = sql_keeper.the_row store_row (stored.ghosts file_row of_disk stored.no_dict)

host_sent : IsSend Host.the_row
host_sent = search (crosses, sendable) depth 60 fits 20000

connection_sent : IsSend connection_row
connection_sent = connection_crosses.the_send store_row (stored.ghosts file_row of_disk stored.no_dict)
    (store_crosses.the_send file_row of_disk (file_crosses.the_send Host.the_row Unknown.the_row calls.ghosts unknown.ghosts host_sent))

statement_sent : IsSend Statement.the_row
statement_sent = search (crosses, sendable) depth 60 fits 20000

writing_sent : IsSend writing.the_field.row
writing_sent = search (statement_sent, crosses, sendable) depth 60 fits 20000

kept_row_sent : IsSend kept_row.the_row
kept_row_sent = search (crosses, sendable) depth 60 fits 20000

kind_rows_sent : IsSend kind_rows.the_field.row
kind_rows_sent = search (kept_row_sent, BTreeMap-send, crosses, sendable) depth 60 fits 20000

texts_sent : IsSend text.the_field.row
texts_sent = search (crosses, sendable) depth 60 fits 20000

rows_sent : IsSend account_rows.the_row
rows_sent = search (texts_sent, kind_rows_sent, crosses, sendable) depth 60 fits 20000

sql_keeper_sent : IsSend sql_keeper_row
sql_keeper_sent = search (connection_sent, statement_sent, writing_sent, rows_sent, crosses, frees, sendable) depth 60 fits 20000

pub file_keeper_sent : IsSend file_keeper.the_row
file_keeper_sent = search (sql_keeper_sent, crosses, sendable) depth 60 fits 20000
