mod AtPlaces
