pub mod EventSeries
