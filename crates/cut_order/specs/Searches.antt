-- What is asked of a search.
use Rattle.cut_order.specs.declared.instance.Instance.{Instance}
use Rattle.cut_order.specs.declared.search.OrderSearch.{OrderSearch}

abbrev pub instance_of : OrderSearch → Instance
instance_of search = search.certified.instance
