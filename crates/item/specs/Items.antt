-- What an item in code stands for.
use Rattle.laws.specs.Item.{Item, item}
use Rattle.table.specs.Level.{bytes_of}
use Rattle.item.specs.declared.item.Item as code

abbrev pub item_of : code.Item → Item
item_of x = item x.start (bytes_of x.size)
