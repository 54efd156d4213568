pub mod BinaryCases
